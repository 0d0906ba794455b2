use Rattle.std.proofs.Common.{refl}
use Rattle.std.specs.Prelude.{option_and_then}
use Rattle.cmc_meta.specs.declared.key.Kind.TheVariants as kinds
use Rattle.cmc_model.specs.Objects.{object_at}
use Rattle.cmc_rules.specs.Views.{owned_in}
use Rattle.cmc_audit_state.specs.Journaled.{cached}
use Rattle.cmc_audit_state.proofs.Listing.{picked_next, picked_all}
use Rattle.cmc_audit_state.proofs.journal.owned_under.Goals as goal

pub loop-key-init : goal.loop-key-init
loop-key-init c = rw (c.into_iter-key-iterator.ensures.into_iter_gives, c.iter-key-items.ensures.rest, c.new-owned.ensures) refl

pub loop-key-preserved : goal.loop-key-preserved
loop-key-preserved c =
    picked_next (λ k. option_and_then (owned_in c.args.certificate.now) (object_at (cached kinds.CertificateRequest c.args.journal.now c.args.up_to) k)) c.args.keys.now.keys c.loop-key.owned c.push_request.new.requests c.loop-key.key-iterator c.next.new.self
    c.in-Some.key.now c.in_ok-owned_at.field-0 c.in-Some.ensures.steps c.in_ok-owned_at.ensures c.in_ok-push_request.ensures.ok c.loop-key.invariant

pub returns : goal.returns
returns c =
    picked_all (λ k. option_and_then (owned_in c.args.certificate.now) (object_at (cached kinds.CertificateRequest c.args.journal.now c.args.up_to) k)) c.args.keys.now.keys c.loop-key.owned c.loop-key.key-iterator c.in-None.ensures.steps.0 c.loop-key.invariant

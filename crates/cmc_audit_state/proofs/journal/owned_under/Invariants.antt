use Rattle.std.specs.Prelude.{option_and_then}
use Rattle.cmc_meta.specs.declared.key.Kind.TheVariants as kinds
use Rattle.cmc_model.specs.Objects.{object_at}
use Rattle.cmc_rules.specs.Views.{owned_in}
use Rattle.cmc_audit_state.specs.Journaled.{cached}
use Rattle.cmc_audit_state.proofs.Listing.{IsLeftOf}
use Rattle.cmc_audit_state.proofs.journal.owned_under.Given as goal

abbrev pub invariant-loop-key : goal.invariant-loop-key
invariant-loop-key l = IsLeftOf (λ k. option_and_then (owned_in l.certificate) (object_at (cached kinds.CertificateRequest l.journal l.up_to) k)) l.keys.keys l.owned l.key-iterator

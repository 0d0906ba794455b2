use Rattle.std.proofs.Common.{◌≡◌, ◌∙◌, ℤ, rules, subst, sym, w64}
use Rattle.std.specs.Option.{option_copied}
use Rattle.std.proofs.lemmas.Int.{to_z-of_z}
use Rattle.cmc_objects.specs.declared.certificate.Certificate.{Certificate}
use Rattle.cmc_objects.specs.declared.certificate.CertStatus.{CertStatus}
use Rattle.cmc_rules.specs.Issuance as table
use Rattle.cmc_rules.specs.NextKeys.{named_key}
use Rattle.cmc_issuing.proofs.Planned.{asked_for, no_certificate, passed_on, with_named}
use Rattle.cmc_issuing.proofs.writes.secret_of.Goals as goal

pub unreachable-requires : goal.unreachable-requires
unreachable-requires c = no_certificate c.args.views.now c.args.now c.in_default.is c.requires.plan

pub secret_by-requires-clause-plan : goal.secret_by-requires-clause-plan
secret_by-requires-clause-plan c =
    let found : table.issuing c.args.views.now c.args.now ≡ table.with_key_of c.args.now c.deref-3.result.now c.args.views.now.secret c.as_slice-2.result.now (option_copied c.named_key-key.result) =
    with_named c.args.views.now c.args.now c.in-Some.certificate c.deref-3.result.now c.as_slice.result.now c.as_slice-2.result.now (option_copied c.named_key-key.result) c.in-Some.is c.deref-3.ensures c.as_slice.ensures c.as_slice-2.ensures
    (subst (λ (x : Certificate). option_copied c.named_key-key.result ≡ named_key x.status.next_key c.as_slice.result.now) (c.deref.ensures ∙ sym c.deref-3.ensures) (subst (λ (t : CertStatus). option_copied c.named_key-key.result ≡ named_key t.next_key c.as_slice.result.now) c.deref-2.ensures c.named_key-key.ensures)) c.requires.plan in
    asked_for (λ (m : ℤ). table.with_key_of m c.deref-3.result.now c.args.views.now.secret c.as_slice-2.result.now (option_copied c.named_key-key.result)) _ c.args.now _ (to_z-of_z w64 c.args.now (search rules)) found c.requires.plan

pub returns : goal.returns
returns c =
    let found : table.issuing c.args.views.now c.args.now ≡ table.with_key_of c.args.now c.deref-3.result.now c.args.views.now.secret c.as_slice-2.result.now (option_copied c.named_key-key.result) =
    with_named c.args.views.now c.args.now c.in-Some.certificate c.deref-3.result.now c.as_slice.result.now c.as_slice-2.result.now (option_copied c.named_key-key.result) c.in-Some.is c.deref-3.ensures c.as_slice.ensures c.as_slice-2.ensures
    (subst (λ (x : Certificate). option_copied c.named_key-key.result ≡ named_key x.status.next_key c.as_slice.result.now) (c.deref.ensures ∙ sym c.deref-3.ensures) (subst (λ (t : CertStatus). option_copied c.named_key-key.result ≡ named_key t.next_key c.as_slice.result.now) c.deref-2.ensures c.named_key-key.ensures)) c.requires.plan in
    passed_on (λ (m : ℤ). table.with_key_of m c.deref-3.result.now c.args.views.now.secret c.as_slice-2.result.now (option_copied c.named_key-key.result)) _ c.args.now _ c.secret_by.result (to_z-of_z w64 c.args.now (search rules)) found c.secret_by.ensures

use Rattle.std.proofs.Common.{◌∙◌, ap, rules, sym, w64}
use Rattle.std.proofs.lemmas.Int.{to_z-of_z}
use Rattle.cmc_objects.specs.declared.request.RequestSpec.{RequestSpec}
use Rattle.cmc_issuing.proofs.Planned.{issued_secret, is_given, made_of, marked_secret, no_stand_in}
use Rattle.cmc_issuing.proofs.writes.secret_with.Goals as goal

pub returns-then-is_granted : goal.returns-then-is_granted
returns-then-is_granted c =
    is_given _ _ c.issued_secret.result (issued_secret c.args.moment c.args.certificate.now c.args.file.now c.args.target.now c.args.request.now (sym c.is_granted.ensures ∙ c.if-is_granted.true) c.requires.plan) c.issued_secret.ensures

pub unreachable-requires : goal.unreachable-requires
unreachable-requires c =
    no_stand_in c.args.moment c.args.certificate.now c.args.file.now c.args.target.now c.args.request.now (sym c.is_granted.ensures ∙ c.if-is_granted.false)
    (made_of _ _ _ c.args.moment c.args.file.now c.args.request.now _ _ (c.as_slice.ensures ∙ ap (λ (x : RequestSpec). x.request) c.deref.ensures) c.as_slice-2.ensures (to_z-of_z w64 c.args.moment (search rules)) c.in_ok-stand_in.ensures c.in-None.is) c.requires.plan

pub returns : goal.returns
returns c =
    is_given _ _ c.marked_secret.result
    (marked_secret c.args.moment c.args.certificate.now c.args.file.now c.in-Some.stand_in c.args.target.now c.args.request.now (sym c.is_granted.ensures ∙ c.if-is_granted.false)
    (made_of _ _ _ c.args.moment c.args.file.now c.args.request.now _ _ (c.as_slice.ensures ∙ ap (λ (x : RequestSpec). x.request) c.deref.ensures) c.as_slice-2.ensures (to_z-of_z w64 c.args.moment (search rules)) c.in_ok-stand_in.ensures c.in-Some.is) c.requires.plan) c.marked_secret.ensures

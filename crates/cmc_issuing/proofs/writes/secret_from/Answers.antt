use Rattle.std.proofs.Common.{◌≡◌, ℤ, rules, sym, w64}
use Rattle.std.specs.Option.{option_copied}
use Rattle.std.proofs.lemmas.Int.{to_z-of_z}
use Rattle.cmc_rules.specs.Issuance as table
use Rattle.cmc_issuing.proofs.Planned.{asked, asked_for, passed_on, with_found}
use Rattle.cmc_issuing.proofs.writes.secret_from.Goals as goal

pub secret_with-requires-clause-plan : goal.secret_with-requires-clause-plan
secret_with-requires-clause-plan c =
    let found : table.with_file c.args.moment c.args.certificate.now c.args.target.now c.args.requests.now (option_copied c.args.file) ≡ table.with_wanted c.args.moment c.args.certificate.now c.in-Some.file.now c.args.target.now c.deref-in-Some-request.result.now =
    with_found c.args.moment c.args.certificate.now c.args.target.now c.args.requests.now c.args.file c.in-Some.file c.in-Some-request.request.now c.deref-in-Some-request.result.now c.in-Some.is (asked c.args.certificate.now.status _ c.args.requests.now _ c.deref.ensures (sym c.in-Some-request.ensures)) c.deref-in-Some-request.ensures c.requires.plan in
    asked_for (λ (m : ℤ). table.with_wanted m c.args.certificate.now c.in-Some.file.now c.args.target.now c.deref-in-Some-request.result.now) _ c.args.moment _ (to_z-of_z w64 c.args.moment (search rules)) found c.requires.plan

pub returns : goal.returns
returns c =
    let found : table.with_file c.args.moment c.args.certificate.now c.args.target.now c.args.requests.now (option_copied c.args.file) ≡ table.with_wanted c.args.moment c.args.certificate.now c.in-Some.file.now c.args.target.now c.deref-in-Some-request.result.now =
    with_found c.args.moment c.args.certificate.now c.args.target.now c.args.requests.now c.args.file c.in-Some.file c.in-Some-request.request.now c.deref-in-Some-request.result.now c.in-Some.is (asked c.args.certificate.now.status _ c.args.requests.now _ c.deref.ensures (sym c.in-Some-request.ensures)) c.deref-in-Some-request.ensures c.requires.plan in
    passed_on (λ (m : ℤ). table.with_wanted m c.args.certificate.now c.in-Some.file.now c.args.target.now c.deref-in-Some-request.result.now) _ c.args.moment _ c.secret_with.result (to_z-of_z w64 c.args.moment (search rules)) found c.secret_with.ensures

use Rattle.std.proofs.Common.{◌≡◌, ◌+◌, ◌++◌, [], ◌∷◌, ℤ, rules, take, sym, subst, ◌∙◌, ap, arith, to_z, of_z, w64}
use Rattle.std.proofs.lemmas.List.{take_more}
use Rattle.std.proofs.lemmas.Int.{to_z-of_z}
use Rattle.cmc_objects.specs.declared.request.CertificateRequest.{CertificateRequest}
use Rattle.cmc_rules.specs.SeenObjects.{IsAmong}
use Rattle.cmc_safety.specs.MayAct.{MayAct}
use Rattle.cmc_load_laws.specs.Measure.{requests_part}
use Rattle.cmc_load_tests.specs.Left.{request_alone}
use Rattle.cmc_load_tests.proofs.Sums.{among_at, sum_more, sum_of_first, waits_low}
use Rattle.cmc_load_tests.proofs.left.requests_part.Goals as goal

pub waits-requires : goal.waits-requires
waits-requires c =
    subst (λ (t : ℤ). MayAct (request_alone c.request-item.result) t c.args.desk.now) (sym (to_z-of_z w64 c.args.now (search rules)))
    (c.requires.each c.request-item.result
    (subst (λ (r : CertificateRequest). IsAmong r c.args.requests.now) (sym c.request-item.is) (among_at c.args.requests.now c.loop-request.request-index c.request-item.result c.loop-request-test.true)))

pub overflow_add-sum : goal.overflow_add-sum
overflow_add-sum c =
    omega (arith, c.loop-request.invariant, c.in_ok-sum.ensures, c.requires.few, c.loop-request-test.true, waits_low c.args.desk.now (to_z w64 (of_z w64 c.args.now)) c.request-item.result, sum_of_first c.args.desk.now (to_z w64 (of_z w64 c.args.now)) c.args.requests.now c.loop-request.request-index)

pub loop-request-preserved : goal.loop-request-preserved
loop-request-preserved c =
    let more = subst (λ (r : CertificateRequest). take (c.loop-request.request-index + 1) c.args.requests.now ≡ take c.loop-request.request-index c.args.requests.now ++ r ∷ []) (sym c.request-item.is)
    (take_more c.args.requests.now c.loop-request.request-index c.request-item.result c.loop-request-test.true) in
    let whole = ap (requests_part c.args.desk.now (to_z w64 (of_z w64 c.args.now))) more ∙ sum_more c.args.desk.now (to_z w64 (of_z w64 c.args.now)) (take c.loop-request.request-index c.args.requests.now) c.request-item.result in
    omega (arith, whole, c.loop-request.invariant, c.in_ok-sum.ensures)

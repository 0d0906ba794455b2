use Rattle.std.proofs.Common.{arith, to_z, of_z, w64}
use Rattle.cmc_load_tests.proofs.Sums.{certificate_low, sum_low}
use Rattle.cmc_load_tests.proofs.left.measure.Goals as goal

pub overflow_add-result : goal.overflow_add-result
overflow_add-result c =
    omega (arith, c.in_ok-requests.ensures, c.in_ok-own.ensures, c.wide-owned.ensures.same, c.wide-owned.ensures.short, sum_low c.args.desk.now (to_z w64 (of_z w64 c.args.now)) c.as_slice-3.result.now, certificate_low (to_z w64 (of_z w64 c.args.now)) c.args.seen.now c.args.seen.now.certificate)

pub overflow_add-result-2 : goal.overflow_add-result-2
overflow_add-result-2 c =
    omega (arith, c.in_ok-requests.ensures, c.in_ok-own.ensures, c.wide-owned.ensures.same, c.wide-owned.ensures.short, sum_low c.args.desk.now (to_z w64 (of_z w64 c.args.now)) c.as_slice-3.result.now, certificate_low (to_z w64 (of_z w64 c.args.now)) c.args.seen.now c.args.seen.now.certificate)

pub overflow_add-result-3 : goal.overflow_add-result-3
overflow_add-result-3 c =
    omega (arith, c.in_ok-requests.ensures, c.in_ok-own.ensures, c.wide-next.ensures.short, c.wide-owned.ensures.same, c.wide-owned.ensures.short, sum_low c.args.desk.now (to_z w64 (of_z w64 c.args.now)) c.as_slice-3.result.now, certificate_low (to_z w64 (of_z w64 c.args.now)) c.args.seen.now c.args.seen.now.certificate)

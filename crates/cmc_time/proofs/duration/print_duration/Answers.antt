use Rattle.std.proofs.Common.{ℕ, List, sym, subst}
use Rattle.std.proofs.lemmas.Result.{IfOk-weaker}
use Rattle.cmc_time.specs.Durations.{IsDuration}
use Rattle.cmc_time.proofs.DurationLaws.{go_duration_is}
use Rattle.cmc_time.proofs.duration.print_duration.Goals as goal

pub returns-clause-reads_back : goal.returns-clause-reads_back
returns-clause-reads_back c within =
    IfOk-weaker c.printed.result _ _
    (λ text e. subst (λ (bytes : List ℕ). IsDuration bytes c.args.seconds) (sym e) (go_duration_is c.args.seconds within)) c.printed.ensures

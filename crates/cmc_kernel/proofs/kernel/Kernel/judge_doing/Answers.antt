use Rattle.std.proofs.Common.{◌≡◌, sym, subst, Some}
use Rattle.cmc_rules.specs.Acts.{act, call_after}
use Rattle.cmc_rules.specs.Desks.{desk}
use Rattle.cmc_rules.specs.Passes.{open_pass}
use Rattle.cmc_moves.specs.declared.doing.Judged.TheVariants.{Does}
use Rattle.cmc_moves.specs.PassActions.{IsDoingBy, IsGoingOn}
use Rattle.cmc_kernel.specs.Kept.{Seen, setting_of, on}
use Rattle.cmc_kernel.proofs.NextSteps.{does_going}
use Rattle.cmc_kernel.proofs.kernel.Kernel.judge_doing.Goals as goal

pub returns : goal.returns
returns c =
    let p = c.args.current.now in
    subst (λ (v : Seen). on IsGoingOn v c.args.pass (Does c.in_ok-doing.doing)) c.self.view_is
    (does_going (setting_of c.self.inside.scenario) c.self.inside.history.entries c.args.pass p c.in_ok-doing.doing c.len-entries.result c.events.result c.has_room.result
    (subst (λ (v : Seen). on open_pass v c.args.pass ≡ Some p) (sym c.self.view_is) c.requires.opened) c.requires.free
    (subst (λ (v : Seen). IsDoingBy p.stage (act p.role p.seen p.since (on desk v p.role p.seen)) (call_after p.role p.seen p.since) c.in_ok-doing.doing) (sym c.self.view_is) c.in_ok-doing.ensures)
    c.len-entries.ensures c.events.ensures.value c.has_room.ensures c.if-not-has_room.false)

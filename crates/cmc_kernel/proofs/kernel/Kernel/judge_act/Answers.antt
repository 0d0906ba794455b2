use Rattle.std.proofs.Common.{◌≡◌, ◌∙◌, sym, subst, Some}
use Rattle.cmc_rules.specs.Passes.{open_pass}
use Rattle.cmc_moves.specs.declared.doing.Judged.TheVariants.{Answer, Does}
use Rattle.cmc_moves.specs.declared.moves.Stepped.TheVariants.{Spent}
use Rattle.cmc_moves.specs.PassActions.{IsGoingOn}
use Rattle.cmc_kernel.specs.Kept.{Seen, setting_of, on}
use Rattle.cmc_kernel.proofs.NextSteps.{does_going, spent_going}
use Rattle.cmc_moves.proofs.Decisions.{doing_decided, waits_not}
use Rattle.cmc_kernel.proofs.kernel.Kernel.judge_act.Goals as goal

pub returns-then-not-has_room : goal.returns-then-not-has_room
returns-then-not-has_room c =
    let p = c.args.current.now in
    subst (λ (v : Seen). on IsGoingOn v c.args.pass (Answer (Spent c.len-entries.result))) c.self.view_is
    (spent_going (setting_of c.self.inside.scenario) c.self.inside.history.entries c.args.pass p c.len-entries.result c.events.result c.has_room.result
    (subst (λ (v : Seen). on open_pass v c.args.pass ≡ Some p) (sym c.self.view_is) c.requires.opened) (waits_not p c.requires.undecided) c.len-entries.ensures c.events.ensures.value c.has_room.ensures c.if-not-has_room.true)

pub returns : goal.returns
returns c =
    let p = c.args.current.now in
    subst (λ (v : Seen). on IsGoingOn v c.args.pass (Does c.in_ok-doing.doing)) c.self.view_is
    (does_going (setting_of c.self.inside.scenario) c.self.inside.history.entries c.args.pass p c.in_ok-doing.doing c.len-entries.result c.events.result c.has_room.result
    (subst (λ (v : Seen). on open_pass v c.args.pass ≡ Some p) (sym c.self.view_is) c.requires.opened) (waits_not p c.requires.undecided)
    (doing_decided (setting_of c.self.inside.scenario) c.self.inside.history.entries p c.args.decided.now _ c.in_ok-doing.doing c.requires.undecided c.requires.same c.act.ensures.decided (c.in_ok-copy.ensures ∙ c.act.ensures.value) c.in_ok-doing.ensures)
    c.len-entries.ensures c.events.ensures.value c.has_room.ensures c.if-not-has_room.false)

use Rattle.std.proofs.Common.{◌≡◌, ◌∙◌, ap, refl, sym, subst, IfOk, Some, ℕ}
use Rattle.cmc_pass.specs.declared.pass.Desk.{Desk}
use Rattle.cmc_pass.specs.declared.pass.Views.{Views}
use Rattle.cmc_held.specs.Questioned.{asked_for}
use Rattle.cmc_rules.specs.Acts.{act, call_after}
use Rattle.cmc_rules.specs.Desks.{desk}
use Rattle.cmc_rules.specs.Passes.{open_pass}
use Rattle.cmc_safety.specs.MayAct.{MayAct}
use Rattle.cmc_moves.specs.PassActions.{IsDoingBy}
use Rattle.cmc_kernel.specs.Kept.{Seen, first_desk, setting_of, on}
use Rattle.cmc_kernel.proofs.Said.{run_of}
use Rattle.cmc_kernel.proofs.NextSteps.{desk_is, doing_by_any, may_on, next_anyway, next_on, doing_on}
use Rattle.cmc_kernel.proofs.Idling.{on_first_desk}
use Rattle.cmc_kernel.proofs.OwnQuestions.{own_question}
use Rattle.cmc_kernel.proofs.kernel.Kernel.doing.Goals as goal

pub doing_of-requires-clause-acts : goal.doing_of-requires-clause-acts
doing_of-requires-clause-acts c =
    let held = c.self.invariant.held in
    let s = setting_of c.self.inside.scenario in
    let p = c.args.current.now in
    subst (MayAct p.seen p.since) (sym held.desk)
    (on_first_desk s p.seen p.since (desk s c.self.inside.history.entries p.role p.seen) held.formed
    (may_on s c.self.inside.history.entries c.args.pass p (desk s c.self.inside.history.entries p.role p.seen) held.formed (run_of _ _ _ c.self.invariant)
    (subst (λ (v : Seen). on open_pass v c.args.pass ≡ Some p) (sym c.self.view_is) c.requires.opened) refl))

pub doing_of-requires-clause-own : goal.doing_of-requires-clause-own
doing_of-requires-clause-own c =
    own_question (setting_of c.self.inside.scenario) c.self.inside.history.entries c.args.pass c.args.current.now (run_of _ _ _ c.self.invariant)
    (subst (λ (v : Seen). on open_pass v c.args.pass ≡ Some c.args.current.now) (sym c.self.view_is) c.requires.opened)

pub doing_of-requires-clause-goes : goal.doing_of-requires-clause-goes
doing_of-requires-clause-goes c =
    let held = c.self.invariant.held in
    let s = setting_of c.self.inside.scenario in
    let p = c.args.current.now in
    next_anyway p.stage _ _ (call_after p.role p.seen p.since) (sym c.hangs_on_act.ensures ∙ c.if-not-hangs_on_act.true)
    (next_on s c.self.inside.history.entries c.args.pass p (desk s c.self.inside.history.entries p.role p.seen) (run_of _ _ _ c.self.invariant)
    (subst (λ (v : Seen). on open_pass v c.args.pass ≡ Some p) (sym c.self.view_is) c.requires.opened) c.requires.free refl)

pub returns-then-not-hangs_on_act : goal.returns-then-not-hangs_on_act
returns-then-not-hangs_on_act c =
    let p = c.args.current.now in
    doing_by_any p.stage _ _ (call_after p.role p.seen p.since) c.doing_of.result (sym c.hangs_on_act.ensures ∙ c.if-not-hangs_on_act.true) c.doing_of.ensures

pub doing_of-requires-then-asked-eq0-clause-acts : goal.doing_of-requires-then-asked-eq0-clause-acts
doing_of-requires-then-asked-eq0-clause-acts c =
    let held = c.self.invariant.held in
    let s = setting_of c.self.inside.scenario in
    may_on s c.self.inside.history.entries c.args.pass c.args.current.now c.self.inside.desk held.formed (run_of _ _ _ c.self.invariant)
    (subst (λ (v : Seen). on open_pass v c.args.pass ≡ Some c.args.current.now) (sym c.self.view_is) c.requires.opened)
    (desk_is s c.self.inside.history.entries c.args.current.now.role c.args.current.now.seen c.self.inside.questions c.self.inside.desk c.in_ok-asked.asked held.keys_asked held.answers_asked (c.in_ok-asked.ensures ∙ ap (λ (v : Views). asked_for c.self.inside.questions c.args.current.now.role v) c.deref.ensures)
    (held.desk ∙ ap (λ (m : ℕ). record (first_desk s) { asked = m }) (sym c.if-asked-eq0.true)))

pub doing_of-requires-then-asked-eq0-clause-own : goal.doing_of-requires-then-asked-eq0-clause-own
doing_of-requires-then-asked-eq0-clause-own c =
    own_question (setting_of c.self.inside.scenario) c.self.inside.history.entries c.args.pass c.args.current.now (run_of _ _ _ c.self.invariant)
    (subst (λ (v : Seen). on open_pass v c.args.pass ≡ Some c.args.current.now) (sym c.self.view_is) c.requires.opened)

pub doing_of-requires-then-asked-eq0-clause-goes : goal.doing_of-requires-then-asked-eq0-clause-goes
doing_of-requires-then-asked-eq0-clause-goes c =
    let held = c.self.invariant.held in
    let s = setting_of c.self.inside.scenario in
    next_on s c.self.inside.history.entries c.args.pass c.args.current.now c.self.inside.desk (run_of _ _ _ c.self.invariant)
    (subst (λ (v : Seen). on open_pass v c.args.pass ≡ Some c.args.current.now) (sym c.self.view_is) c.requires.opened) c.requires.free
    (desk_is s c.self.inside.history.entries c.args.current.now.role c.args.current.now.seen c.self.inside.questions c.self.inside.desk c.in_ok-asked.asked held.keys_asked held.answers_asked (c.in_ok-asked.ensures ∙ ap (λ (v : Views). asked_for c.self.inside.questions c.args.current.now.role v) c.deref.ensures)
    (held.desk ∙ ap (λ (m : ℕ). record (first_desk s) { asked = m }) (sym c.if-asked-eq0.true)))

pub returns-then-asked-eq0 : goal.returns-then-asked-eq0
returns-then-asked-eq0 c =
    let held = c.self.invariant.held in
    let s = setting_of c.self.inside.scenario in
    let p = c.args.current.now in
    subst (λ (v : Seen). IfOk c.doing_of-then-asked-eq0.result (λ d. IsDoingBy p.stage (act p.role p.seen p.since (on desk v p.role p.seen)) (call_after p.role p.seen p.since) d)) c.self.view_is
    (doing_on s c.self.inside.history.entries p c.self.inside.desk c.doing_of-then-asked-eq0.result
    (desk_is s c.self.inside.history.entries p.role p.seen c.self.inside.questions c.self.inside.desk c.in_ok-asked.asked held.keys_asked held.answers_asked (c.in_ok-asked.ensures ∙ ap (λ (v : Views). asked_for c.self.inside.questions c.args.current.now.role v) c.deref.ensures)
    (held.desk ∙ ap (λ (m : ℕ). record (first_desk s) { asked = m }) (sym c.if-asked-eq0.true)))
    c.doing_of-then-asked-eq0.ensures)

pub doing_of-requires-2-clause-acts : goal.doing_of-requires-2-clause-acts
doing_of-requires-2-clause-acts c =
    let held = c.self.invariant.held in
    let s = setting_of c.self.inside.scenario in
    may_on s c.self.inside.history.entries c.args.pass c.args.current.now (record { material = c.in_ok-copy.field-0; asked = c.in_ok-asked.asked; rules = c.in_ok-copy-2.field-0 }) held.formed (run_of _ _ _ c.self.invariant)
    (subst (λ (v : Seen). on open_pass v c.args.pass ≡ Some c.args.current.now) (sym c.self.view_is) c.requires.opened)
    (desk_is s c.self.inside.history.entries c.args.current.now.role c.args.current.now.seen c.self.inside.questions _ c.in_ok-asked.asked held.keys_asked held.answers_asked (c.in_ok-asked.ensures ∙ ap (λ (v : Views). asked_for c.self.inside.questions c.args.current.now.role v) c.deref.ensures)
    (λ i. record { material = (c.in_ok-copy.ensures ∙ ap (λ (x : Desk). x.material) held.desk) i; asked = c.in_ok-asked.asked; rules = (c.in_ok-copy-2.ensures ∙ ap (λ (x : Desk). x.rules) held.desk) i }))

pub doing_of-requires-2-clause-own : goal.doing_of-requires-2-clause-own
doing_of-requires-2-clause-own c =
    own_question (setting_of c.self.inside.scenario) c.self.inside.history.entries c.args.pass c.args.current.now (run_of _ _ _ c.self.invariant)
    (subst (λ (v : Seen). on open_pass v c.args.pass ≡ Some c.args.current.now) (sym c.self.view_is) c.requires.opened)

pub doing_of-requires-2-clause-goes : goal.doing_of-requires-2-clause-goes
doing_of-requires-2-clause-goes c =
    let held = c.self.invariant.held in
    let s = setting_of c.self.inside.scenario in
    next_on s c.self.inside.history.entries c.args.pass c.args.current.now (record { material = c.in_ok-copy.field-0; asked = c.in_ok-asked.asked; rules = c.in_ok-copy-2.field-0 }) (run_of _ _ _ c.self.invariant)
    (subst (λ (v : Seen). on open_pass v c.args.pass ≡ Some c.args.current.now) (sym c.self.view_is) c.requires.opened) c.requires.free
    (desk_is s c.self.inside.history.entries c.args.current.now.role c.args.current.now.seen c.self.inside.questions _ c.in_ok-asked.asked held.keys_asked held.answers_asked (c.in_ok-asked.ensures ∙ ap (λ (v : Views). asked_for c.self.inside.questions c.args.current.now.role v) c.deref.ensures)
    (λ i. record { material = (c.in_ok-copy.ensures ∙ ap (λ (x : Desk). x.material) held.desk) i; asked = c.in_ok-asked.asked; rules = (c.in_ok-copy-2.ensures ∙ ap (λ (x : Desk). x.rules) held.desk) i }))

pub returns : goal.returns
returns c =
    let held = c.self.invariant.held in
    let s = setting_of c.self.inside.scenario in
    let p = c.args.current.now in
    subst (λ (v : Seen). IfOk c.doing_of-2.result (λ d. IsDoingBy p.stage (act p.role p.seen p.since (on desk v p.role p.seen)) (call_after p.role p.seen p.since) d)) c.self.view_is
    (doing_on s c.self.inside.history.entries p (record { material = c.in_ok-copy.field-0; asked = c.in_ok-asked.asked; rules = c.in_ok-copy-2.field-0 }) c.doing_of-2.result
    (desk_is s c.self.inside.history.entries p.role p.seen c.self.inside.questions _ c.in_ok-asked.asked held.keys_asked held.answers_asked (c.in_ok-asked.ensures ∙ ap (λ (v : Views). asked_for c.self.inside.questions c.args.current.now.role v) c.deref.ensures)
    (λ i. record { material = (c.in_ok-copy.ensures ∙ ap (λ (x : Desk). x.material) held.desk) i; asked = c.in_ok-asked.asked; rules = (c.in_ok-copy-2.ensures ∙ ap (λ (x : Desk). x.rules) held.desk) i }))
    c.doing_of-2.ensures)

use Rattle.std.proofs.Common.{◌≡◌, ℕ, ap, sym, subst, ◌∙◌, rules, w64}
use Rattle.std.proofs.lemmas.Int.{to_z-of_z}
use Rattle.std.specs.Prelude.{IfOk}
use Rattle.cmc_pass.specs.declared.pass.Desk.{Desk}
use Rattle.cmc_rules.specs.Acts.{act}
use Rattle.cmc_rules.specs.Desks.{desk}
use Rattle.cmc_model.specs.Histories.{moment}
use Rattle.cmc_rules.specs.Views.{views}
use Rattle.cmc_safety.specs.MayAct.{MayAct}
use Rattle.cmc_moves.specs.Prospects.{IsProspect}
use Rattle.cmc_kernel.specs.Kept.{setting_of, first_desk, Seen, on}
use Rattle.cmc_kernel.proofs.NextSteps.{desk_is}
use Rattle.cmc_kernel.proofs.Prospects.{may_by, prospect_by}
use Rattle.cmc_kernel.proofs.kernel.Kernel.prospect.Goals as goal

pub prospect_of-requires : goal.prospect_of-requires
prospect_of-requires c =
    let held = c.self.invariant.held in
    let s = setting_of c.self.inside.scenario in
    let h = c.self.inside.history.entries in
    may_by s h c.args.role c.args.key.now c.args.seen.now _ _
    (subst (λ (v : Seen). MayAct (on views v c.args.role c.args.key.now) (on moment v) (on desk v c.args.role (on views v c.args.role c.args.key.now))) (sym c.self.view_is) (c.can_act.ensures c.args.role c.args.key.now))
    (subst (λ (v : Seen). c.args.seen.now ≡ on views v c.args.role c.args.key.now) (sym c.self.view_is) c.requires)
    (to_z-of_z w64 c.self.inside.moment (search rules) ∙ held.moment)
    (desk_is s h c.args.role c.args.seen.now c.self.inside.questions c.self.inside.desk c.in_ok-asked.asked held.keys_asked held.answers_asked c.in_ok-asked.ensures
    (held.desk ∙ ap (λ (m : ℕ). record (first_desk s) { asked = m }) (sym c.if-asked-eq0.true)))

pub returns-then-asked-eq0 : goal.returns-then-asked-eq0
returns-then-asked-eq0 c =
    let held = c.self.invariant.held in
    let s = setting_of c.self.inside.scenario in
    let h = c.self.inside.history.entries in
    subst (λ (v : Seen). IfOk c.prospect_of.result (λ p. IsProspect c.args.role (act c.args.role c.args.seen.now (on moment v) (on desk v c.args.role c.args.seen.now)) p)) c.self.view_is
    (prospect_by s h c.args.role c.args.seen.now _ _ c.prospect_of.result (to_z-of_z w64 c.self.inside.moment (search rules) ∙ held.moment)
    (desk_is s h c.args.role c.args.seen.now c.self.inside.questions c.self.inside.desk c.in_ok-asked.asked held.keys_asked held.answers_asked c.in_ok-asked.ensures
    (held.desk ∙ ap (λ (m : ℕ). record (first_desk s) { asked = m }) (sym c.if-asked-eq0.true)))
    c.prospect_of.ensures)

pub prospect_of-requires-2 : goal.prospect_of-requires-2
prospect_of-requires-2 c =
    let held = c.self.invariant.held in
    let s = setting_of c.self.inside.scenario in
    let h = c.self.inside.history.entries in
    may_by s h c.args.role c.args.key.now c.args.seen.now _ _
    (subst (λ (v : Seen). MayAct (on views v c.args.role c.args.key.now) (on moment v) (on desk v c.args.role (on views v c.args.role c.args.key.now))) (sym c.self.view_is) (c.can_act.ensures c.args.role c.args.key.now))
    (subst (λ (v : Seen). c.args.seen.now ≡ on views v c.args.role c.args.key.now) (sym c.self.view_is) c.requires)
    (to_z-of_z w64 c.self.inside.moment (search rules) ∙ held.moment)
    (desk_is s h c.args.role c.args.seen.now c.self.inside.questions _ c.in_ok-asked.asked held.keys_asked held.answers_asked c.in_ok-asked.ensures
    (λ i. record { material = (c.in_ok-copy.ensures ∙ ap (λ (x : Desk). x.material) held.desk) i; asked = c.in_ok-asked.asked; rules = (c.in_ok-copy-2.ensures ∙ ap (λ (x : Desk). x.rules) held.desk) i }))

pub returns : goal.returns
returns c =
    let held = c.self.invariant.held in
    let s = setting_of c.self.inside.scenario in
    let h = c.self.inside.history.entries in
    subst (λ (v : Seen). IfOk c.prospect_of-2.result (λ p. IsProspect c.args.role (act c.args.role c.args.seen.now (on moment v) (on desk v c.args.role c.args.seen.now)) p)) c.self.view_is
    (prospect_by s h c.args.role c.args.seen.now _ _ c.prospect_of-2.result (to_z-of_z w64 c.self.inside.moment (search rules) ∙ held.moment)
    (desk_is s h c.args.role c.args.seen.now c.self.inside.questions _ c.in_ok-asked.asked held.keys_asked held.answers_asked c.in_ok-asked.ensures
    (λ i. record { material = (c.in_ok-copy.ensures ∙ ap (λ (x : Desk). x.material) held.desk) i; asked = c.in_ok-asked.asked; rules = (c.in_ok-copy-2.ensures ∙ ap (λ (x : Desk). x.rules) held.desk) i }))
    c.prospect_of-2.ensures)

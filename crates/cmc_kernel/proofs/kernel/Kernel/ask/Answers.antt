use Rattle.std.proofs.Common.{◌∙◌, ◌<◌, ◌≤◌, ap, sym, subst, length}
use Rattle.std.specs.Prelude.{◌==◌, if◌then◌else◌, option_map}
use Rattle.cmc_objects.specs.declared.orders.Order.{Order}
use Rattle.cmc_rules.specs.declared.progress.Stage.TheVariants.{Asked}
use Rattle.cmc_rules.specs.Legality.{IsOpen}
use Rattle.cmc_rules.specs.Passes.{open_pass, with_stage}
use Rattle.cmc_rules.specs.Causes.{MayAsk}
use Rattle.cmc_held.specs.Open.{pass_at}
use Rattle.cmc_held.specs.Questioned.{count_under}
use Rattle.cmc_kernel.specs.Kept.{Seen, on}
use Rattle.cmc_kernel.proofs.Asking.{asks_fit, kept_asked}
use Rattle.cmc_kernel.proofs.kernel.Kernel.ask.Goals as goal

pub note-requires-clause-keys : goal.note-requires-clause-keys
note-requires-clause-keys c = λ subject.
    asks_fit _ _ _ (c.self.invariant.held.keys_asked subject) (subst (λ (v : Seen). length v.history ≤ 250000) (sym c.self.view_is) c.is_short.ensures)

pub note-requires-clause-answers : goal.note-requires-clause-answers
note-requires-clause-answers c = λ subject.
    asks_fit _ _ _ (c.self.invariant.held.answers_asked subject) (subst (λ (v : Seen). length v.history ≤ 250000) (sym c.self.view_is) c.is_short.ensures)

pub invariant_of-self-2 : goal.invariant_of-self-2
invariant_of-self-2 c =
    rw (c.push.ensures.entries, c.in_ok-reserve.ensures.same, c.into_parts-order.ensures.order, c.in_ok-asking.ensures.order)
    (kept_asked _ _ _ c.args.pass c.args.order (λ n. pass_at c.advance.new.self n) (count_under c.note.new.self.keys) (count_under c.note.new.self.answers) c.self.invariant
    (subst (λ (v : Seen). IsOpen (on open_pass v c.args.pass)) (sym c.self.view_is) c.requires.stands)
    (subst (λ (v : Seen). on MayAsk v (on open_pass v c.args.pass) c.args.order) (sym c.self.view_is) c.requires.may)
    (subst (λ (v : Seen). length v.history < v.scenario.events) (sym c.self.view_is) c.requires.room)
    (λ n. c.advance.ensures n ∙ ap (λ (o : Order). if n == c.args.pass then option_map (with_stage (Asked o)) (pass_at c.self.inside.passes n) else pass_at c.self.inside.passes n) (c.into_parts-order.ensures.kept ∙ c.in_ok-asking.ensures.kept))
    (rw (c.in_ok-asking.ensures.order) at c.in_ok-note.ensures.keys) (rw (c.in_ok-asking.ensures.order) at c.in_ok-note.ensures.answers))

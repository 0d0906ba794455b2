use Rattle.std.proofs.Common.{◌∙◌, ◌∷◌, ◌&&◌, ap, refl, sym, subst, List, rules, w64, to_z, of_z}
use Rattle.std.proofs.lemmas.Int.{to_z-of_z}
use Rattle.std.specs.Prelude.{if◌then◌else◌}
use Rattle.cmc_meta.specs.Keys.{key_eq}
use Rattle.cmc_rules.specs.declared.progress.Origin.{Origin}
use Rattle.cmc_rules.specs.declared.progress.Past.{Past}
use Rattle.cmc_model.specs.Histories.{role_eq}
use Rattle.cmc_rules.specs.Memory.{with_begin}
use Rattle.cmc_held.specs.Open.{pass_at}
use Rattle.cmc_held.specs.Remembered.{past_at}
use Rattle.cmc_moves.specs.declared.moves.Stepped.TheVariants.{Done}
use Rattle.cmc_moves.specs.Answers.{AnswersBegin}
use Rattle.cmc_kernel.specs.Kept.{Seen, on}
use Rattle.cmc_kernel.specs.Prepared.{IsPrepared}
use Rattle.cmc_kernel.proofs.Begins.{kept_open}
use Rattle.cmc_kernel.proofs.Spare.{kept_spare}
use Rattle.cmc_kernel.proofs.kernel.Kernel.open.Goals as goal

pub invariant_of-self : goal.invariant_of-self
invariant_of-self c = rw (c.reserve.ensures.same) c.self.invariant

pub invariant_of-self-in_err-reserve-2 : goal.invariant_of-self-in_err-reserve-2
invariant_of-self-in_err-reserve-2 c = rw (c.in_ok-reserve.ensures.same, c.in_err-reserve-2.ensures.same) c.self.invariant

pub invariant_of-self-in_err-ready : goal.invariant_of-self-in_err-ready
invariant_of-self-in_err-ready c =
    kept_spare _ _ c.reserve.new.self.entries _ c.self.inside.store.faults c.self.inside.store.state c.reserve-2.new.self.origins (λ n. pass_at c.self.inside.passes n) (λ r k. past_at c.ready.new.self r k)
    c.self.invariant c.in_ok-reserve.ensures.same refl refl c.in_ok-reserve-2.ensures.same (λ n. refl) (λ r k. c.in_err-ready.ensures.same r k)

pub invariant_of-self-in_err-open : goal.invariant_of-self-in_err-open
invariant_of-self-in_err-open c =
    kept_spare _ _ c.reserve.new.self.entries _ c.self.inside.store.faults c.self.inside.store.state c.reserve-2.new.self.origins (λ n. pass_at c.open.new.self n) (λ r k. past_at c.ready.new.self r k)
    c.self.invariant c.in_ok-reserve.ensures.same refl refl c.in_ok-reserve-2.ensures.same (λ n. ap (λ x. pass_at x n) c.in_err-open.ensures.err) (λ r k. c.in_ok-ready.ensures.same r k)

pub invariant_of-self-2 : goal.invariant_of-self-2
invariant_of-self-2 c =
    rw (c.push-2.ensures.entries, c.in_ok-reserve.ensures.same)
    (kept_open _ _ _ c.args.role c.args.prepared (to_z w64 (of_z w64 c.self.inside.moment)) (to_z w64 (of_z w64 c.self.inside.moment)) c.push.new.self.origins (λ n. pass_at c.open.new.self n) (λ r k. past_at c.begin.new.self r k) c.self.invariant (to_z-of_z w64 c.self.inside.moment (search rules)) (to_z-of_z w64 c.self.inside.moment (search rules))
    (subst (λ (v : Seen). on AnswersBegin v c.args.role c.args.prepared.key Done) (sym c.self.view_is) c.requires.may)
    (subst (λ (v : Seen). on IsPrepared v c.args.role c.args.prepared.key c.args.prepared) (sym c.self.view_is) c.requires.right)
    (c.push.ensures.origins ∙ ap (λ (l : List Origin). c.args.prepared.origin ∷ l) c.in_ok-reserve-2.ensures.same)
    c.in_ok-open.ensures.ok
    (λ r k. c.begin.ensures.past r k ∙ ap (λ (p : Past). if role_eq c.args.role r && key_eq c.args.prepared.key k then with_begin c.args.prepared.seen (to_z w64 (of_z w64 c.self.inside.moment)) p else p) (c.in_ok-ready.ensures.same r k)))

use Rattle.std.proofs.Common.{◌≡◌, Bool, true, sym, ap, ◌∙◌, subst}
use Rattle.std.specs.Prelude.{if◌then◌else◌}
use Rattle.cmc_meta.specs.declared.key.Key.{Key}
use Rattle.cmc_meta.specs.Keys.{key_eq}
use Rattle.cmc_informer.specs.Indexes.{has_place}
use Rattle.cmc_informer.proofs.OneKey.{one_mark, placed_is}
use Rattle.cmc_informer.proofs.marks.map_of.Goals as goal

pub returns-clause-same : goal.returns-clause-same
returns-clause-same c k =
    c.set.ensures.marks k ∙ ap (λ (on : Bool). if key_eq c.args.mark.now.key k then c.args.mark.now.on else on) (c.in_ok-room-2.ensures.same k ∙ c.in_ok-room.ensures.same k ∙ c.new-map.ensures k)
    ∙ sym (one_mark c.args.mark.now k)

pub returns-clause-keeps : goal.returns-clause-keeps
returns-clause-keeps c k has =
    c.set.ensures.keeps k (c.in_ok-room-2.ensures.keeps k (subst (λ (q : Key). has_place c.room.new.self q ≡ true) (placed_is c.args.mark.now k has) c.in_ok-room.ensures.room))

use Rattle.std.proofs.Common.{ap, sym, ◌∙◌}
use Rattle.std.specs.Option.{option_copied_mut}
use Rattle.cmc_informer.proofs.OneMark.{mark_written, mark_missing, places_stay}
use Rattle.cmc_informer.proofs.mark_map.MarkMap.set.Goals as goal
use Rattle.cmc_informer.proofs.mark_map.MarkMap.set.Goals.{in-Some, in_default}

pub returns : goal.returns
returns c =
    elim c.match-get_mut.branch [
      | in-Some w ↦ rw (← c.self.view_is, w.self-inside-is) (record {
        marks = mark_written c.self.inside.map (c.get_mut.follows.lender c.args.on) c.args.key.now w.in-Some.place.now c.args.on (sym c.get_mut.ensures.value ∙ ap option_copied_mut w.in-Some.is) (c.get_mut.follows.holds c.args.on);
        keeps = places_stay c.self.inside.map (c.get_mut.follows.lender c.args.on) c.args.key.now w.in-Some.place.now c.args.on (sym c.get_mut.ensures.value ∙ ap option_copied_mut w.in-Some.is) (c.get_mut.follows.holds c.args.on);
      })
      | in_default w ↦ rw (← c.self.view_is, w.self-inside-is, c.get_mut.follows.holds-at-none) (record {
        marks = mark_missing c.self.inside.map.entries c.args.key.now c.args.on (rw c.self.view_is c.requires) (sym c.get_mut.ensures.value ∙ ap option_copied_mut w.in_default.is);
        keeps = λ k has. has;
      })
    ]

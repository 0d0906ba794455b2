use Rattle.std.proofs.Common.{ℕ, true, false, refl, ap, subst, ◌-◌, ◌≡◌}
use Rattle.std.specs.Prelude.{nat_lt}
use Rattle.cmc_collector.specs.declared.entry.CollectEntry.TheVariants as entries
use Rattle.cmc_collector.specs.Replays.{given_uids, on}
use Rattle.cmc_collector.proofs.Seeing.{accepted_is, else_is, tells_list, tells_on, then_is}
use Rattle.cmc_collector.proofs.collection.Collection.told.Goals as goal

pub returns-then-position-start : goal.returns-then-position-start
returns-then-position-start c =
    then_is _ _ _ _
    (subst (λ (p : ℕ). nat_lt p (on given_uids c.args.self.now - c.args.self.now.window) ≡ true) c.requires
    (tells_list c.self.inside.events c.self.inside.server c.self.inside.caches c.self.inside.rows c.self.inside.entries.moments c.watch-watch.result.now c.args.self.now c.args.position c.start.result c.self.invariant c.watch-watch.ensures.writes c.watch-watch.ensures.window c.start.ensures c.self.view_is c.if-position-start.true))
    (ap (entries.List c.args.kind) (accepted_is c.self.inside.events c.self.inside.server c.self.inside.caches c.self.inside.rows c.self.inside.entries.moments c.watch-watch.result.now c.args.self.now c.accepted.result c.self.invariant c.watch-watch.ensures.writes c.accepted.ensures c.self.view_is))

pub returns : goal.returns
returns c =
    else_is _ _ _ _
    (subst (λ (p : ℕ). nat_lt p (on given_uids c.args.self.now - c.args.self.now.window) ≡ false) c.requires
    (tells_on c.self.inside.events c.self.inside.server c.self.inside.caches c.self.inside.rows c.self.inside.entries.moments c.watch-watch.result.now c.args.self.now c.args.position c.start.result c.self.invariant c.watch-watch.ensures.writes c.watch-watch.ensures.window c.start.ensures c.self.view_is c.if-position-start.false))
    refl

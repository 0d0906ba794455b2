use Rattle.std.proofs.Common.{◌≡◌, List, true, subst}
use Rattle.std.specs.BTreeMap.{is_at}
use Rattle.std.specs.List.{list_any}
use Rattle.cmc_meta.specs.declared.key.Key.{Key}
use Rattle.cmc_meta.specs.Keys.{key_cmp}
use Rattle.cmc_collector.specs.Rows.{has_examine_row}
use Rattle.cmc_collector.proofs.Seeing.{told_covered}
use Rattle.cmc_collector.proofs.rows.tell_with_rows.Goals as goal

pub returns-clause-covered : goal.returns-clause-covered
returns-clause-covered c =
    told_covered c.args.caches.now c.tell.new.self c.args.rows.now c.make_rows.new.rows c.give_up_rows.new.rows c.args.watch.now c.args.kind c.args.to c.position-from.result c.told_to-at.result c.in_ok-changed.changed
    c.requires.told c.in_ok-tell.ensures.told c.requires.above c.requires.within c.position-from.ensures c.told_to-at.ensures c.in_ok-tell.ensures.moved c.in_ok-changed.ensures c.requires.covered
    (subst (λ (ks : List Key). (k : Key) → list_any (is_at (key_cmp k)) ks ≡ true → has_examine_row c.make_rows.new.rows k ≡ true) c.as_slice.ensures c.in_ok-make_rows.ensures.room)
    c.make_rows.ensures.keeps c.give_up_rows.ensures.keeps

pub returns-in_err-make_rows-clause-covered : goal.returns-in_err-make_rows-clause-covered
returns-in_err-make_rows-clause-covered c = λ k owned. c.make_rows.ensures.keeps k (c.requires.covered k owned)

use Rattle.std.proofs.Common.{◌≡◌, true, arith, ◌∙◌}
use Rattle.cmc_meta.specs.Names.{is_label}
use Rattle.cmc_meta.proofs.Labels.{begun, after_dot, after_other}
use Rattle.cmc_meta.proofs.name.all_labels.Goals as goal
use Rattle.cmc_meta.proofs.name.all_labels.Goals.{then-byte-eq46+else-not-is_one_label, else-byte-eq46}

pub loop-i-preserved : goal.loop-i-preserved
loop-i-preserved c =
    elim c.if-byte-eq46.branch [
      | then-byte-eq46+else-not-is_one_label w ↦
          let label : is_label (begun c.args.bytes.now c.loop-i.start c.loop-i.i) ≡ true = grind arith in
          record { within = omega (arith, w.start-is); same = after_dot c.args.bytes.now c.loop-i.start c.loop-i.i c.if-byte-eq46.start c.loop-i.invariant.within c.loop-i-test.true w.if-byte-eq46.true label w.start-is ∙ c.loop-i.invariant.same }
      | else-byte-eq46 w ↦
          record { within = omega (arith, w.start-is); same = after_other c.args.bytes.now c.loop-i.start c.loop-i.i c.if-byte-eq46.start c.loop-i.invariant.within c.loop-i-test.true w.if-byte-eq46.false w.start-is ∙ c.loop-i.invariant.same }
    ]

use Rattle.std.proofs.Common.{◌≡◌, ◌+◌, [], ◌∷◌, ◌++◌, take, sym, subst}
use Rattle.std.proofs.lemmas.List.{take_more}
use Rattle.cmc_model.specs.declared.write.Write.{Write}
use Rattle.cmc_world.proofs.KnownKeys.{deleted_step}
use Rattle.cmc_world.proofs.fed_scripts.deleted_of.Goals as goal

pub loop-write-preserved : goal.loop-write-preserved
loop-write-preserved c =
    let more = subst (λ (w : Write). take (c.loop-write.write-index + 1) c.args.writes.now ≡ take c.loop-write.write-index c.args.writes.now ++ w ∷ []) (sym c.write-item.is)
    (take_more c.args.writes.now c.loop-write.write-index c.write-item.result c.loop-write-test.true) in
    deleted_step c.args.role (take c.loop-write.write-index c.args.writes.now) (take (c.loop-write.write-index + 1) c.args.writes.now) c.write-item.result c.loop-write.keys.items c.put_deleted.new.keys.items more
    c.in_ok-put_deleted.ensures.work c.in_ok-put_deleted.ensures.other c.loop-write.invariant

use Rattle.std.proofs.Common.{Option, sym, subst}
use Rattle.cmc_kernel.specs.Kept.{setting_of}
use Rattle.cmc_world.specs.declared.begins.Beginning.{Beginning}
use Rattle.cmc_world.specs.declared.plain_move.PlainMove.{PlainMove}
use Rattle.cmc_world.specs.PlainMoves.{IsNextPlain}
use Rattle.cmc_world.specs.Searches.{FindsBegin}
use Rattle.cmc_world.proofs.Chosen.{as_told, rest_first, some_begin}
use Rattle.cmc_world.proofs.next_move.first_to_begin.Goals as goal

pub returns-then-branch-clause-plain : goal.returns-then-branch-clause-plain
returns-then-branch-clause-plain c =
    let s = setting_of c.args.kernel.now.scenario in
    let h = c.args.kernel.now.history in
    subst (λ (m : Option PlainMove). IsNextPlain s h m) (sym c.at_rest.ensures)
    (as_told s h c.args.left
    (rest_first s h c.args.left c.in_ok-rests_in_each.field-0 c.is_run.ensures.run c.is_settled.ensures c.requires.left c.requires.closed c.requires.told c.in_ok-rests_in_each.ensures.test c.if-branch.true))

pub unreachable-requires : goal.unreachable-requires
unreachable-requires c =
    let s = setting_of c.args.kernel.now.scenario in
    let h = c.args.kernel.now.history in
    some_begin s h c.args.left c.in_ok-rests_in_each.field-0 c.is_run.ensures.run c.is_settled.ensures c.requires.left c.requires.closed c.requires.told c.in_ok-rests_in_each.ensures.test c.if-branch.false
    (subst (λ (found : Option Beginning). FindsBegin s h found) c.in-None.is c.in_ok-role.ensures.finds)

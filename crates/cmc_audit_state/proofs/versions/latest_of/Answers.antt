use Rattle.std.proofs.Common.{leb, rules}
use Rattle.std.proofs.lemmas.List.Sorted.{IsPartitionPoint-from_clause, IsPartitionedBy-leb}
use Rattle.cmc_audit_state.proofs.Searching.{latest_none, latest_some}
use Rattle.cmc_audit_state.proofs.versions.latest_of.Goals as goal

pub returns-then-place-eq0 : goal.returns-then-place-eq0
returns-then-place-eq0 c =
    let parted = IsPartitionedBy-leb (λ v. v) c.args.versions.now c.args.up_to c.requires in
    let point = IsPartitionPoint-from_clause (λ v. leb v c.args.up_to) _ _ c.partition_point-place.ensures.partitioned parted (λ a r q k. search rules) in
    latest_none c.args.up_to c.args.versions.now (rw c.if-place-eq0.true at point)

pub returns : goal.returns
returns c =
    let parted = IsPartitionedBy-leb (λ v. v) c.args.versions.now c.args.up_to c.requires in
    let point = IsPartitionPoint-from_clause (λ v. leb v c.args.up_to) _ _ c.partition_point-place.ensures.partitioned parted (λ a r q k. search rules) in
    latest_some c.args.up_to c.args.versions.now c.partition_point-place.result point c.if-place-eq0.false c.partition_point-place.ensures.bound

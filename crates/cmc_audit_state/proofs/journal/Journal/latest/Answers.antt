use Rattle.std.proofs.Common.{List, ℕ, ◌+◌, length, sym, ap, subst, ◌∙◌}
use Rattle.std.specs.List.Sorted.{IsNonDecreasingBy}
use Rattle.std.specs.Prelude.{reverse}
use Rattle.cmc_model.specs.Writes.{write_at}
use Rattle.cmc_audit_state.specs.Journaled.{IsIndexOfWrites, latest_in, versions_under, object_left}
use Rattle.cmc_audit_state.proofs.Searching.{rises}
use Rattle.cmc_audit_state.proofs.Latest.{versions_fall, latest_stands}
use Rattle.cmc_audit_state.proofs.journal.Journal.latest.Goals as goal

pub latest-version-requires : goal.latest-version-requires
unfolding IsIndexOfWrites
latest-version-requires c =
    let ws = reverse c.self.inside.items.items in
    subst (λ (vs : List ℕ). IsNonDecreasingBy (λ v. v) (reverse vs)) (sym (c.self.invariant.versions c.args.key.now)) (rises (length ws + 1) (versions_under c.args.key.now ws) (versions_fall c.args.key.now ws))

pub returns : goal.returns
unfolding IsIndexOfWrites
returns c =
    let ws = reverse c.self.inside.items.items in
    rw (← c.self.view_is) (c.written_by.ensures ∙ rw c.as_slice.ensures.value (ap (λ v. object_left (write_at v ws)) (c.latest-version.ensures ∙ ap (latest_in c.args.up_to) (c.self.invariant.versions c.args.key.now)))
    ∙ sym (latest_stands c.args.up_to c.args.key.now ws))

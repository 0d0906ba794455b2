use Rattle.std.proofs.Common.{ℕ, List, Option, sym, subst}
use Rattle.std.specs.List.Sorted.{IsNonDecreasingBy}
use Rattle.std.specs.Prelude.{reverse, unwrap_or, []}
use Rattle.std.proofs.lemmas.List.{reverse-reverse}
use Rattle.cmc_meta.specs.declared.key.Key.{Key}
use Rattle.cmc_audit_state.specs.Journaled.{versions_in}
use Rattle.cmc_audit_state.proofs.versions.Versions.latest.Goals as goal

pub latest_of-requires : goal.latest_of-requires
unfolding versions_in
latest_of-requires c =
    rw c.as_slice.ensures (subst (λ (vs : List ℕ). IsNonDecreasingBy (λ v. v) vs) (reverse-reverse c.in-Some.versions.now)
    (subst (λ (x : Option (List ℕ)). IsNonDecreasingBy (λ v. v) (reverse (reverse (unwrap_or x [])))) (sym c.in-Some.ensures.value)
    (subst (λ (v : List (Key × List ℕ)). IsNonDecreasingBy (λ v. v) (reverse (versions_in v c.args.key.now))) (sym c.self.view_is) c.requires)))

-- One more owner has a uid.
use Rattle.std.proofs.Common.{◌≡◌, ◌<◌, ◌≤◌, ◌^◌, List, [], ◌∷◌, length, get_or, drop, subst}
use Rattle.cmc_meta.specs.declared.owners.OwnerRef.{OwnerRef}
use Rattle.cmc_codec.specs.Laws.{HaveUids}

pub one_more : (os : List OwnerRef) (o : OwnerRef) → 1 ≤ length os → o ≡ get_or os 0 o → o.uid < 2 ^ 64 → HaveUids (drop 1 os) → HaveUids os
one_more [] o some is uid rest = tt
one_more (p ∷ ps) o some is uid rest = (subst (λ (q : OwnerRef). q.uid < 2 ^ 64) is uid, rest)

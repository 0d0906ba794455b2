-- The write in its place is the next that is to be known.
use Rattle.std.proofs.Common.{◌≡◌, ℕ, ◌<◌, get_or, List, ◌∷◌, length, reverse, sym, ap, subst, ◌∙◌, arith}
use Rattle.std.proofs.lemmas.List.{length-reverse}
use Rattle.cmc_model.specs.declared.write.Write.{Write}
use Rattle.cmc_model.specs.Writes.{oldest}
use Rattle.cmc_model.proofs.Writes.{oldest-replayed}
use Rattle.cmc_caches.proofs.Columns.{IsNextWrite}

pub next_in_place : (slice ws : List Write) (n : ℕ) (w : Write) → reverse slice ≡ ws → n < length ws → w ≡ get_or slice n w → IsNextWrite n w ws
next_in_place slice ws n w is low at =
    let count : length (reverse slice) ≡ length slice = length-reverse slice in
    let below : n < length slice = omega (arith, low, ap length is, count) in
    subst (λ (l : List Write). IsNextWrite n w l) is (oldest-replayed slice n w below ∙ ap (λ (v : Write). v ∷ oldest n (reverse slice)) (sym at))

-- In a legal history the uid of an object is the number of a write that names its key: of the one that created it.
use Rattle.std.proofs.Common.{◌≡◌, ◌⊎◌, ℕ, ◌≤◌, List, [], ◌∷◌, length, Option, Some, None, refl, sym, ◌∙◌, subst, inl, inr}
use Rattle.cmc_meta.specs.declared.key.Key.{Key}
use Rattle.cmc_objects.specs.declared.entry.Entry.{Entry}
use Rattle.cmc_objects.specs.declared.object.Object.{Object}
use Rattle.cmc_model.specs.declared.write.Write.{Write}
use Rattle.cmc_model.specs.Histories.{Setting}
use Rattle.cmc_model.specs.Objects.{object_at}
use Rattle.cmc_model.specs.Versions.{uid_of, IsVersion}
use Rattle.cmc_model.specs.Writes.{contents, write_at, writes}
use Rattle.cmc_model.proofs.Versions.{IsHeir, IsLawful, IsNew, lawful_object, standing, uids_low}
use Rattle.cmc_rules.specs.Legality.{IsLegal}
use Rattle.cmc_rules.proofs.Versions.{lawful}
use Rattle.cmc_caches.specs.Board.{AreBornWhereNumbered}
use Rattle.cmc_caches.proofs.LastNumbers.{write_newest, write_older}

-- the write of this number names the key
abbrev pub IsWriteOf : ℕ → Key → List Write → Type 0
IsWriteOf n key ws = (w : Write) × (write_at n ws ≡ Some w) × (w.key ≡ key)

later : (n : ℕ) (key : Key) (w : Write) (ws : List Write) → n ≤ length ws → IsWriteOf n key ws → IsWriteOf n key (w ∷ ws)
later n key w ws low is = (is.0, write_older n w ws low ∙ is.1, is.2)

by_heir : (w : Write) (ws : List Write) (o : Object) (old : Option Object) → object_at (contents ws) w.key ≡ old → IsHeir o old → IsLawful ws
    → ((p : Object) → IsVersion w.key p ws → IsWriteOf (uid_of p) w.key ws) → IsWriteOf (uid_of o) w.key (w ∷ ws)
by_heir w ws o None e heir law below = absurd heir
by_heir w ws o (Some p) e heir law below =
    let has : IsVersion w.key p ws = standing ws w.key p e in
    subst (λ (n : ℕ). IsWriteOf n w.key (w ∷ ws)) (sym heir.0) (later (uid_of p) w.key w ws (uids_low ws w.key p law has) (below p has))

born_by : (w : Write) (ws : List Write) (o : Object) → IsNew (length (w ∷ ws)) w.key o ⊎ IsHeir o (object_at (contents ws) w.key) → IsLawful ws
    → ((p : Object) → IsVersion w.key p ws → IsWriteOf (uid_of p) w.key ws) → IsWriteOf (uid_of o) w.key (w ∷ ws)
born_by w ws o (inl new) law below = subst (λ (n : ℕ). IsWriteOf n w.key (w ∷ ws)) (sym new.0) (w, write_newest w ws, refl)
born_by w ws o (inr heir) law below = by_heir w ws o (object_at (contents ws) w.key) refl heir law below

lawful_births : (ws : List Write) → IsLawful ws → AreBornWhereNumbered ws
lawful_births [] law key o has = absurd has
lawful_births (w ∷ ws) law key o (inl is) =
    subst (λ (k : Key). IsWriteOf (uid_of o) k (w ∷ ws)) is.0 (born_by w ws o (lawful_object w ws o law is.1).1 law.1 (λ p has. lawful_births ws law.1 w.key p has))
lawful_births (w ∷ ws) law key o (inr has) = later (uid_of o) key w ws (uids_low ws key o law.1 has) (lawful_births ws law.1 key o has)

pub legal_births : (s : Setting) (h : List Entry) → IsLegal s h → AreBornWhereNumbered (writes s h)
legal_births s h legal = lawful_births (writes s h) (lawful s h legal)

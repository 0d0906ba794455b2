-- Lines of numbers before which one number is put.
use Rattle.std.proofs.Common.{◌≡◌, ℕ, ◌+◌, ◌≤◌, List, [], ◌∷◌, ◌++◌, length, take, get_or, ◌<◌, Bool, true, false, refl, sym, ap, subst, ◌∙◌, inl, inr, ◌⊎◌, arith}
use Rattle.std.specs.Prelude.{if◌then◌else◌, nat_lt, ◌==◌, ◌&&◌, ◌||◌}
use Rattle.std.proofs.Math.Bool.{or-false, or-true}
use Rattle.std.proofs.lemmas.Bool.{eq-eqb, eqb-true, or_cases}
use Rattle.std.proofs.lemmas.Bool.Decides.{nat_tests}
use Rattle.std.proofs.lemmas.List.{take_more}
use Rattle.std.proofs.lemmas.List.Folds.{list_any-append}
use Rattle.cmc_meta.specs.declared.key.Key.{Key}
use Rattle.cmc_meta.specs.declared.owners.OwnerRef.{OwnerRef}
use Rattle.cmc_model.specs.declared.write.Write.{Write}
use Rattle.cmc_model.specs.Writes.{write_at}
use Rattle.cmc_informer.specs.Caches.{names}
use Rattle.cmc_caches.specs.Lines.{is_on_line}
use Rattle.cmc_caches.specs.Left.{AreAtMost, AreFalling, IsTopped, has_left, is_write_of}
use Rattle.cmc_caches.proofs.LastNumbers.{write_older}

or_right : (a b : Bool) → b ≡ true → (a || b) ≡ true
or_right a b is = ap (λ x. a || x) is ∙ or-true a

pub topped_same : (m : ℕ) (ns : List ℕ) → IsTopped m ns ns
topped_same m [] = refl
topped_same m (n ∷ ns) = inl refl

pub topped_more : (m : ℕ) (b : Bool) (old mid new : List ℕ) → new ≡ (if b then m ∷ mid else mid) → IsTopped m old mid → IsTopped m old new
topped_more m true old mid new is topped = subst (IsTopped m old) (sym is) (inr (refl, topped))
topped_more m false old mid new is topped = subst (IsTopped m old) (sym is) topped

pub topped_left : (m : ℕ) (old new : List ℕ) (p : ℕ) (key : Key) (ws : List Write) → IsTopped m old new → has_left p old key ws ≡ true → has_left p new key ws ≡ true
topped_left m old [] p key ws is had = ap (λ (l : List ℕ). has_left p l key ws) is ∙ had
topped_left m old (n ∷ ns) p key ws (inl is) had = ap (λ (l : List ℕ). has_left p l key ws) is ∙ had
topped_left m old (n ∷ ns) p key ws (inr is) had = or_right (nat_lt p n && is_write_of (write_at n ws) key) (has_left p ns key ws) (topped_left m old ns p key ws is.1 had)

pub topped_low : (k m : ℕ) (old new : List ℕ) → m ≤ k → AreAtMost k old → IsTopped m old new → AreAtMost k new
topped_low k m old [] fits low is = tt
topped_low k m old (n ∷ ns) fits low (inl is) = subst (AreAtMost k) (sym is) low
topped_low k m old (n ∷ ns) fits low (inr is) = (omega (arith, is.0, fits), topped_low k m old ns fits low is.1)

pub topped_falls : (m : ℕ) (old new : List ℕ) → AreAtMost m old → AreFalling old → IsTopped m old new → AreFalling new
topped_falls m old [] low falls is = tt
topped_falls m old (n ∷ ns) low falls (inl is) = subst AreFalling (sym is) falls
topped_falls m old (n ∷ ns) low falls (inr is) = (subst (λ (x : ℕ). AreAtMost x ns) (sym is.0) (topped_low m m old ns (omega arith) low is.1), topped_falls m old ns low falls is.1)

pub at_most_more : (n m : ℕ) (ns : List ℕ) → n ≤ m → AreAtMost n ns → AreAtMost m ns
at_most_more n m [] fits low = tt
at_most_more n m (k ∷ ks) fits low = (omega (arith, low.0, fits), at_most_more n m ks fits low.1)

-- ---- the number that is noted

noted_here : (b : Bool) (m n p : ℕ) (key : Key) (ws : List Write) (ns : List ℕ) → (n == m) ≡ b → nat_lt p m ≡ true → is_write_of (write_at m ws) key ≡ true → (is_on_line m ns ≡ true → has_left p ns key ws ≡ true)
    → (b || is_on_line m ns) ≡ true → ((nat_lt p n && is_write_of (write_at n ws) key) || has_left p ns key ws) ≡ true
noted_here true m n p key ws ns e above names below is =
    ap (λ (x : ℕ). (nat_lt p x && is_write_of (write_at x ws) key) || has_left p ns key ws) (eqb-true n m e)
    ∙ ap (λ (b : Bool). (b && is_write_of (write_at m ws) key) || has_left p ns key ws) above ∙ ap (λ (b : Bool). b || has_left p ns key ws) names
noted_here false m n p key ws ns e above names below is = or_right (nat_lt p n && is_write_of (write_at n ws) key) (has_left p ns key ws) (below is)

pub noted_left : (m p : ℕ) (key : Key) (ws : List Write) (ns : List ℕ) → nat_lt p m ≡ true → is_write_of (write_at m ws) key ≡ true → is_on_line m ns ≡ true → has_left p ns key ws ≡ true
noted_left m p key ws [] above names is = absurd (cc is)
noted_left m p key ws (n ∷ ns) above names is = noted_here (n == m) m n p key ws ns refl above names (λ noted. noted_left m p key ws ns above names noted) is

-- ---- a write more

pub left_pushed : (p : ℕ) (key : Key) (w : Write) (ws : List Write) (ns : List ℕ) → AreAtMost (length ws) ns → has_left p ns key (w ∷ ws) ≡ has_left p ns key ws
left_pushed p key w ws [] low = refl
left_pushed p key w ws (n ∷ ns) low =
    ap (λ (b : Bool). (nat_lt p n && b) || has_left p ns key (w ∷ ws)) (ap (λ o. is_write_of o key) (write_older n w ws low.0))
    ∙ ap (λ (b : Bool). (nat_lt p n && is_write_of (write_at n ws) key) || b) (left_pushed p key w ws ns low.1)

-- ---- the walk back

pub none_below : (p n : ℕ) (key : Key) (ws : List Write) (ns : List ℕ) → n ≤ p → AreAtMost n ns → has_left p ns key ws ≡ false
none_below p n key ws [] low most = refl
none_below p n key ws (m ∷ ms) low most =
    let off : nat_lt p m ≡ false = let fits : m ≤ p = omega (arith, most.0, low) in grind (arith, nat_tests) in
    ap (λ (b : Bool). (b && is_write_of (write_at m ws) key) || has_left p ms key ws) off ∙ none_below p n key ws ms low most.1

pub topped_on : (m : ℕ) (old mid new : List ℕ) → new ≡ mid → IsTopped m old mid → IsTopped m old new
topped_on m old mid new is topped = subst (IsTopped m old) (sym is) topped

-- ---- one owner more

pub itself : (n : ℕ) (ns : List ℕ) → is_on_line n (n ∷ ns) ≡ true
itself n ns = ap (λ (b : Bool). b || is_on_line n ns) (eq-eqb n n refl)

noted_by : (b : Bool) (u n : ℕ) (owner : OwnerRef) (mid new : List ℕ) → (u == owner.uid) ≡ b → new ≡ (if b then n ∷ mid else mid) → (is_on_line n mid ≡ true) ⊎ ((owner.uid == u || false) ≡ true) → is_on_line n new ≡ true
noted_by true u n owner mid new e is had = ap (is_on_line n) is ∙ itself n mid
noted_by false u n owner mid new e is (inl was) = ap (is_on_line n) is ∙ was
noted_by false u n owner mid new e is (inr here) =
    absurd (let on : (u == owner.uid) ≡ true = eq-eqb u owner.uid (sym (eqb-true owner.uid u (sym (or-false (owner.uid == u)) ∙ here))) in cc (on, e))

pub noted_next : (owners : List OwnerRef) (i u n : ℕ) (owner : OwnerRef) (mid new : List ℕ) → i < length owners → owner ≡ get_or owners i owner → new ≡ (if u == owner.uid then n ∷ mid else mid)
    → (names u (take i owners) ≡ true → is_on_line n mid ≡ true) → names u (take (i + 1) owners) ≡ true → is_on_line n new ≡ true
noted_next owners i u n owner mid new low at is was named =
    let more : take (i + 1) owners ≡ take i owners ++ owner ∷ [] = take_more owners i owner low ∙ ap (λ (o : OwnerRef). take i owners ++ o ∷ []) (sym at) in
    noted_by (u == owner.uid) u n owner mid new refl is
    (elim (or_cases (names u (take i owners)) (owner.uid == u || false) (sym (ap (names u) more ∙ list_any-append (λ o. o.uid == u) (take i owners) (owner ∷ [])) ∙ named)) [
      | inl before ↦ inl (was before)
      | inr here ↦ inr here
    ])

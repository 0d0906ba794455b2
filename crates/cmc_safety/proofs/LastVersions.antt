-- The last version of a uid: what stands is the last one, and a write that keeps what it says of the revision keeps it for each uid.
use Rattle.std.proofs.Common.{◌≡◌, ◌==◌, ◌⊎◌, ℕ, ◌≤◌, List, [], ◌∷◌, length, Option, Some, None, Bool, true, false, cond, refl, sym, ap, subst, ◌∙◌, inl, inr, arith}
use Rattle.std.proofs.lemmas.Bool.Decides.{Decides-eqb}
use Rattle.std.proofs.lemmas.Cmp.{eq_by_cmp_equiv}
use Rattle.std.specs.Prelude.{if◌then◌else◌, unwrap_or}
use Rattle.std.specs.Ordering.{eq_by_cmp}
use Rattle.std.specs.FinMap.{get-empty}
use Rattle.cmc_meta.specs.declared.key.Key.{Key}
use Rattle.cmc_meta.specs.Keys.{key_cmp}
use Rattle.cmc_objects.specs.declared.object.Object.{Object}
use Rattle.cmc_model.specs.declared.write.Write.{Write}
use Rattle.cmc_model.specs.Objects.{no_objects, object_at}
use Rattle.cmc_model.specs.Writes.{contents}
use Rattle.cmc_model.specs.Versions.{uid_of, IsVersion}
use Rattle.cmc_meta.proofs.KeyOrder.{key_cmp-total}
use Rattle.cmc_model.proofs.Versions.{IsNew, IsHeir, IsLawful, lawful_object, standing, object_at-put, one_key}
use Rattle.cmc_rules.specs.Revisions.{stated_revision, stated_in, newer_of, last_version, revision_of_uid, KeepsRevision}

number_is_own : (n : ℕ) → (n == n) ≡ true
number_is_own n = (Decides-eqb n n).1 refl

pub one_object : (o p : Object) (x : Option Object) → x ≡ Some o → x ≡ Some p → o ≡ p
one_object o p x a b = let some : Some o ≡ Some p = sym a ∙ b in cc some

-- keys that differ do not tie
not_tied : (j k : Key) → j ≡ k → eq_by_cmp key_cmp k j ≡ false → ⊥
not_tied j k one off =
    let tie : eq_by_cmp key_cmp k k ≡ true = (eq_by_cmp_equiv key_cmp-total).refl k in
    absurd (let no : eq_by_cmp key_cmp k k ≡ false = subst (λ (i : Key). eq_by_cmp key_cmp k i ≡ false) one off in cc (tie, no))

-- ---- what stands is the last version of its uid

newest_of_uid : (x older : Option Object) (o : Object) → x ≡ Some o → newer_of (uid_of o) x older ≡ Some o
newest_of_uid x older o is = ap (λ (y : Option Object). newer_of (uid_of o) y older) is ∙ ap (λ (b : Bool). if b then Some o else older) (number_is_own (uid_of o))

-- a write under another key is of another uid
of_other_key : (w : Write) (ws : List Write) (key : Key) (o : Object) (x : Option Object) → IsLawful (w ∷ ws) → eq_by_cmp key_cmp key w.key ≡ false → IsVersion key o ws → w.object ≡ x
    → last_version (uid_of o) ws ≡ Some o → newer_of (uid_of o) x (last_version (uid_of o) ws) ≡ Some o
of_other_key w ws key o None law other has is below = below
of_other_key w ws key o (Some p) law other has is below = by (uid_of p == uid_of o) refl where
  by : (b : Bool) → (uid_of p == uid_of o) ≡ b → (if b then Some p else last_version (uid_of o) ws) ≡ Some o
  by true e = absurd (not_tied w.key key (one_key (w ∷ ws) w.key key p o law (inl (refl, is)) (inr has) ((Decides-eqb (uid_of p) (uid_of o)).0 e)) other)
  by false e = below

last_under : (w : Write) (ws : List Write) (key : Key) (o : Object) (b : Bool) → IsLawful (w ∷ ws) → eq_by_cmp key_cmp key w.key ≡ b → (object_at (contents ws) key ≡ Some o → last_version (uid_of o) ws ≡ Some o)
    → cond b w.object (object_at (contents ws) key) ≡ Some o → newer_of (uid_of o) w.object (last_version (uid_of o) ws) ≡ Some o
last_under w ws key o true law here below is = newest_of_uid w.object (last_version (uid_of o) ws) o is
last_under w ws key o false law here below is = of_other_key w ws key o w.object law here (standing ws key o is) refl (below is)

pub stands_as_last : (ws : List Write) (key : Key) (o : Object) → IsLawful ws → object_at (contents ws) key ≡ Some o → last_version (uid_of o) ws ≡ Some o
unfolding contents last_version
stands_as_last [] key o law is = absurd (let none : object_at no_objects key ≡ None = get-empty key_cmp key in cc (none, is))
stands_as_last (w ∷ ws) key o law is =
    last_under w ws key o (eq_by_cmp key_cmp key w.key) law refl (λ there. stands_as_last ws key o law.1 there) (sym (object_at-put (contents ws) w.key w.object key) ∙ is)

-- ---- a write and the revision of a uid that was given before

kept_by_heir : (ws : List Write) (key : Key) (o : Object) (uid : ℕ) (prior : Option Object) → IsLawful ws → object_at (contents ws) key ≡ prior → IsHeir o prior → KeepsRevision prior (Some o)
    → uid_of o ≡ uid → stated_revision o ≡ stated_in (last_version uid ws)
kept_by_heir ws key o uid None law is heir keeps same = absurd heir
kept_by_heir ws key o uid (Some old) law is heir keeps same =
    let last : last_version uid ws ≡ Some old = subst (λ (u : ℕ). last_version u ws ≡ Some old) (sym heir.0 ∙ same) (stands_as_last ws key old law is) in
    keeps ∙ ap stated_in (sym last)

kept_by_version : (w : Write) (ws : List Write) (o : Object) (uid : ℕ) → IsLawful (w ∷ ws) → w.object ≡ Some o → KeepsRevision (object_at (contents ws) w.key) (Some o) → uid ≤ length ws → uid_of o ≡ uid
    → stated_revision o ≡ stated_in (last_version uid ws)
kept_by_version w ws o uid law is keeps low same = by (lawful_object w ws o law is).1 where
  by : IsNew (length (w ∷ ws)) w.key o ⊎ IsHeir o (object_at (contents ws) w.key) → stated_revision o ≡ stated_in (last_version uid ws)
  by (inl new) = absurd (omega (arith, new.0, same, low))
  by (inr heir) = kept_by_heir ws w.key o uid (object_at (contents ws) w.key) law.1 refl heir keeps same

kept_over : (w : Write) (ws : List Write) (uid : ℕ) (x : Option Object) → IsLawful (w ∷ ws) → w.object ≡ x → KeepsRevision (object_at (contents ws) w.key) x → uid ≤ length ws
    → stated_in (newer_of uid x (last_version uid ws)) ≡ stated_in (last_version uid ws)
kept_over w ws uid None law is keeps low = refl
kept_over w ws uid (Some o) law is keeps low = by (uid_of o == uid) refl where
  by : (b : Bool) → (uid_of o == uid) ≡ b → stated_in (if b then Some o else last_version uid ws) ≡ stated_in (last_version uid ws)
  by true e = kept_by_version w ws o uid law is keeps low ((Decides-eqb (uid_of o) uid).0 e)
  by false e = refl

-- a write that keeps the revision of what stood keeps that of each uid that was given
pub revision_kept : (w : Write) (ws : List Write) (uid : ℕ) → IsLawful (w ∷ ws) → KeepsRevision (object_at (contents ws) w.key) w.object → uid ≤ length ws
    → revision_of_uid uid (w ∷ ws) ≡ revision_of_uid uid ws
unfolding last_version
revision_kept w ws uid law keeps low = ap (λ (n : Option ℕ). unwrap_or n 0) (kept_over w ws uid w.object law refl keeps low)

uid_of_heir : (o : Object) (uid : ℕ) (prior : Option Object) (old : Object) → prior ≡ Some old → IsHeir o prior → uid_of o ≡ uid → uid_of old ≡ uid
uid_of_heir o uid None old is heir same = absurd heir
uid_of_heir o uid (Some p) old is heir same = ap uid_of (sym (one_object p old (Some p) refl is)) ∙ sym heir.0 ∙ same

passed_over : (w : Write) (ws : List Write) (uid : ℕ) (old : Object) (x : Option Object) → IsLawful (w ∷ ws) → w.object ≡ x → object_at (contents ws) w.key ≡ Some old → (uid_of old ≡ uid → ⊥) → uid ≤ length ws
    → newer_of uid x (last_version uid ws) ≡ last_version uid ws
passed_over w ws uid old None law is stood other low = refl
passed_over w ws uid old (Some o) law is stood other low = by (uid_of o == uid) refl where
  born : uid_of o ≡ uid → IsNew (length (w ∷ ws)) w.key o ⊎ IsHeir o (object_at (contents ws) w.key) → ⊥
  born same (inl new) = omega (arith, new.0, same, low)
  born same (inr heir) = other (uid_of_heir o uid (object_at (contents ws) w.key) old stood heir same)

  by : (b : Bool) → (uid_of o == uid) ≡ b → (if b then Some o else last_version uid ws) ≡ last_version uid ws
  by true e = absurd (born ((Decides-eqb (uid_of o) uid).0 e) (lawful_object w ws o law is).1)
  by false e = refl

-- and a write over an object of another uid keeps it too
pub revision_passed_over : (w : Write) (ws : List Write) (uid : ℕ) (old : Object) → IsLawful (w ∷ ws) → object_at (contents ws) w.key ≡ Some old → (uid_of old ≡ uid → ⊥) → uid ≤ length ws
    → revision_of_uid uid (w ∷ ws) ≡ revision_of_uid uid ws
unfolding last_version
revision_passed_over w ws uid old law stood other low = ap (λ (x : Option Object). unwrap_or (stated_in x) 0) (passed_over w ws uid old w.object law refl stood other low)

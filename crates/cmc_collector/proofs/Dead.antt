-- A uid is given once: a dead owner stays dead.
use Rattle.std.proofs.Common.{◌≡◌, ◌⊎◌, ℕ, ◌≤◌, List, [], ◌∷◌, length, Bool, true, false, cond, Option, Some, None, refl, sym, ap, ◌∙◌, inl, inr, arith}
use Rattle.std.specs.Ordering.{eq_by_cmp}
use Rattle.cmc_meta.specs.declared.key.Key.{Key}
use Rattle.cmc_meta.specs.Keys.{key_cmp}
use Rattle.cmc_objects.specs.declared.object.Object.{Object}
use Rattle.cmc_objects.specs.Objects.{version_of}
use Rattle.cmc_model.specs.declared.write.Write.{Write}
use Rattle.cmc_model.specs.Objects.{object_at}
use Rattle.cmc_model.specs.Writes.{contents}
use Rattle.cmc_model.specs.Versions.{uid_of, IsVersion}
use Rattle.cmc_model.proofs.Versions.{IsLawful, IsNew, IsHeir, lawful_object, versions_low, object_at-put}
use Rattle.cmc_collector.specs.Owners.{IsGone}
use Rattle.cmc_informer.proofs.OneMark.{same_key}

-- an heir has the uid of what stood there
heir_gone : (o : Object) (uid : ℕ) (old : Option Object) → IsHeir o old → uid_of o ≡ uid → ((p : Object) → old ≡ Some p → uid_of p ≡ uid → ⊥) → ⊥
heir_gone o uid None heir same gone = heir
heir_gone o uid (Some p) heir same gone = gone p refl (sym heir.0 ∙ same)

new_or_heir : (w : Write) (ws : List Write) (o : Object) (uid : ℕ) → uid ≤ length ws → IsNew (length (w ∷ ws)) w.key o ⊎ IsHeir o (object_at (contents ws) w.key) → uid_of o ≡ uid
    → ((p : Object) → object_at (contents ws) w.key ≡ Some p → uid_of p ≡ uid → ⊥) → ⊥
new_or_heir w ws o uid given (inl new) same gone = omega (arith, new.0, same, given)
new_or_heir w ws o uid given (inr heir) same gone = heir_gone o uid (object_at (contents ws) w.key) heir same gone

by_key : (b : Bool) (w : Write) (ws : List Write) (key : Key) (uid : ℕ) (o : Object) → eq_by_cmp key_cmp key w.key ≡ b → IsLawful (w ∷ ws) → IsGone key uid (contents ws) (length ws)
    → cond b w.object (object_at (contents ws) key) ≡ Some o → uid_of o ≡ uid → ⊥
by_key true w ws key uid o e law gone is same =
    new_or_heir w ws o uid gone.0 (lawful_object w ws o law is).1 same
    (λ p stands. gone.1 p (ap (λ (k : Key). object_at (contents ws) k) (same_key key w.key e) ∙ stands))
by_key false w ws key uid o e law gone is same = gone.1 o is same

-- one write more does not bring it back
pub stays_gone : (w : Write) (ws : List Write) (key : Key) (uid : ℕ) → IsLawful (w ∷ ws) → IsGone key uid (contents ws) (length ws) → IsGone key uid (contents (w ∷ ws)) (length (w ∷ ws))
unfolding contents
stays_gone w ws key uid law gone = (
  omega (arith, gone.0),
  λ o stands same. by_key (eq_by_cmp key_cmp key w.key) w ws key uid o refl law gone (sym (object_at-put (contents ws) w.key w.object key) ∙ stands) same,
)

-- ---- a version names its object

same_some : (o p : Object) → Some o ≡ Some p → o ≡ p
same_some o p e = cc e

pub one_version : (ws : List Write) (j k : Key) (o p : Object) → IsLawful ws → IsVersion j o ws → IsVersion k p ws → version_of o ≡ version_of p → o ≡ p
one_version [] j k o p law a b same = absurd a
one_version (w ∷ ws) j k o p law (inl a) (inl b) same = same_some o p (sym a.1 ∙ b.1)
one_version (w ∷ ws) j k o p law (inl a) (inr b) same = absurd (omega (arith, (lawful_object w ws o law a.1).0, versions_low ws k p law.1 b, same))
one_version (w ∷ ws) j k o p law (inr a) (inl b) same = absurd (omega (arith, (lawful_object w ws p law b.1).0, versions_low ws j o law.1 a, same))
one_version (w ∷ ws) j k o p law (inr a) (inr b) same = one_version ws j k o p law.1 a b same

-- What there is to see where a next key is made or deleted.
use Rattle.std.proofs.Common.{◌≡◌, ◌<◌, ◌++◌, ◌∷◌, [], ℕ, ℤ, List, Bool, true, false, Option, Some, None, refl, sym, ap, subst, ◌∙◌, inl, inr}
use Rattle.std.proofs.lemmas.Bool.{and_from, and_parts}
use Rattle.std.specs.BTreeMap.{is_at}
use Rattle.std.specs.List.{cons_option}
use Rattle.std.specs.Prelude.{option_and_then, if◌then◌else◌}
use Rattle.std.specs.Str.{bytes_eq}
use Rattle.cmc_meta.specs.declared.key.Key.{Key}
use Rattle.cmc_meta.specs.declared.key.Kind.TheVariants as kinds
use Rattle.cmc_meta.specs.Keys.{key_cmp}
use Rattle.cmc_objects.specs.declared.certificate.Certificate.{Certificate}
use Rattle.cmc_objects.specs.declared.secret.Secret.{Secret as SecretObject}
use Rattle.cmc_objects.specs.declared.object.Object.{Object}
use Rattle.cmc_objects.specs.declared.object.Object.TheVariants.{Cert, Secret}
use Rattle.cmc_objects.specs.Objects.{key_of}
use Rattle.cmc_pass.specs.declared.pass.Desk.{Desk}
use Rattle.cmc_pass.specs.declared.pass.Views.{Views}
use Rattle.cmc_model.specs.Objects.{Objects, object_at}
use Rattle.cmc_model.specs.Replies.{put_at}
use Rattle.cmc_model.specs.Histories.{Setting}
use Rattle.cmc_informer.specs.Caches.{names}
use Rattle.cmc_rules.specs.Views.{certificate_at, certificate_in, has_next_label, is_owned, next_in, owned_in, views_in, views_of}
use Rattle.cmc_load_laws.specs.Belonging.{IsOfOrNone, IsParted}
use Rattle.cmc_load_laws.specs.Frame.{HasOneChange, is_of, key_of_target, seen_of}
use Rattle.cmc_load_laws.specs.Measure.{measure, with_next}
use Rattle.cmc_load_laws.proofs.Belonging.{not_true, one_certificate}
use Rattle.cmc_load_laws.proofs.Elsewhere.{elsewhere_at}
use Rattle.cmc_load_laws.proofs.Keyed.{the_views}
use Rattle.cmc_load_laws.proofs.LoadHistories.{IsForOneIn, put_there}
use Rattle.cmc_load_laws.proofs.MeasureLowers.{LowersOver, lowers_over}
use Rattle.cmc_load_laws.proofs.OneWrite.{one_write, only_next}
use Rattle.cmc_load_laws.proofs.Totals.{one_key}
use Rattle.cmc_load_laws.proofs.WritesForOne.{or_there}

-- ---- keys that differ

no_own : (c : Certificate) (key : Key) → key.kind ≡ kinds.Secret → is_at (key_cmp (key_of (Cert c))) key ≡ false
no_own c key kind = not_true (is_at (key_cmp (key_of (Cert c))) key) (λ on. absurd (let other = ap (λ (k : Key). k.kind) (one_key (key_of (Cert c)) key on) ∙ kind in cc other))

owners_none : (uid : ℕ) (k : SecretObject) → k.meta.owners ≡ [] → names uid k.meta.owners ≡ true → ⊥
owners_none uid k none is = let off : names uid k.meta.owners ≡ false = ap (names uid) none in cc (off, is)

-- what a Certificate owns is not the Secret that it names
pub no_target : (m : Objects) (key : Key) (c : Certificate) (k : SecretObject) → IsParted m → object_at m (key_of (Cert c)) ≡ Some (Cert c) → object_at m key ≡ Some (Secret k) → names c.meta.uid k.meta.owners ≡ true
    → is_at (key_cmp (key_of_target c)) key ≡ false
no_target m key c k parted was there owns =
    not_true (is_at (key_cmp (key_of_target c)) key)
    (λ on. owners_none c.meta.uid k (parted.targets (key_of (Cert c)) c (Secret k) was (ap (object_at m) (one_key (key_of_target c) key on) ∙ there)) owns)

-- ---- what there is to see

-- the next keys before and after, with one under the key or none
pub record IsAmongNext (m n : Objects) (c : Certificate) (old new : Option SecretObject) : Type 0 where
  pub first : List SecretObject
  pub rest : List SecretObject
  pub before : (seen_of m (key_of (Cert c))).next ≡ first ++ cons_option old rest
  pub was : seen_of m (key_of (Cert c)) ≡ the_views (seen_of m (key_of (Cert c))) c (first ++ cons_option old rest)
  pub is : seen_of n (key_of (Cert c)) ≡ the_views (seen_of m (key_of (Cert c))) c (first ++ cons_option new rest)

same_views : (v : Views) (c : Certificate) (next : List SecretObject) → v.certificate ≡ Some c → v.next ≡ next → v ≡ the_views v c next
same_views v c next at are = λ i. record v { certificate = at i; next = are i }

after_views : (v w : Views) (c : Certificate) (next : List SecretObject) → v.certificate ≡ Some c → w ≡ with_next w.next v → w.next ≡ next → w ≡ the_views v c next
after_views v w c next at only are = only ∙ (λ i. record v { certificate = at i; next = are i })

module _ (m : Objects) (key : Key) (new : Option Object) (c : Certificate) (was : object_at m (key_of (Cert c)) ≡ Some (Cert c)) (kind : key.kind ≡ kinds.Secret) (off : is_at (key_cmp (key_of_target c)) key ≡ false) where
  here : certificate_at m (key_of (Cert c)) ≡ Some c
  here = ap (option_and_then certificate_in) was

  later : certificate_at (put_at m key new) (key_of (Cert c)) ≡ Some c
  later = ap (option_and_then certificate_in) (elsewhere_at m key new (key_of (Cert c)) (no_own c key kind)) ∙ here

  change : HasOneChange (key_of (Cert c)) c key (object_at m key) new (seen_of m (key_of (Cert c))) (seen_of (put_at m key new) (key_of (Cert c)))
  change = one_write m (key_of (Cert c)) key new c c here later (record { namespace = refl; uid = refl; secret_name = refl })

  pub among_next : (x y : Option SecretObject) → option_and_then (next_in c) (object_at m key) ≡ x → option_and_then (next_in c) new ≡ y → option_and_then (owned_in c) (object_at m key) ≡ None → option_and_then (owned_in c) new ≡ None
      → IsAmongNext m (put_at m key new) c x y
  unfolding views_in views_of
  among_next x y old_is new_is none then_none =
      let own : Key = key_of (Cert c) in
      let before : Views = seen_of m own in
      let after : Views = seen_of (put_at m key new) own in
      let first : List SecretObject = change.next.first in
      let rest : List SecretObject = change.next.rest in
      let were : before.next ≡ first ++ cons_option x rest = change.next.was ∙ ap (λ (o : Option SecretObject). first ++ cons_option o rest) old_is in
      let are : after.next ≡ first ++ cons_option y rest = change.next.is ∙ ap (λ (o : Option SecretObject). first ++ cons_option o rest) new_is in
      let only : after ≡ with_next after.next before = only_next own c key (object_at m key) new before after change (no_own c key kind) off none then_none in
      record { first = first; rest = rest; before = were; was = same_views before c (first ++ cons_option x rest) here were; is = after_views before after c (first ++ cons_option y rest) here only are }

-- ---- a next key that is seen

pub next_is : (c : Certificate) (k : SecretObject) → has_next_label k.meta ≡ true → is_owned c k.meta ≡ true → next_in c (Secret k) ≡ Some k
next_is c k label owns = ap (λ (b : Bool). if b then Some k else None) (and_from (has_next_label k.meta) (is_owned c k.meta) label owns)

pub owner_is : (c : Certificate) (k : SecretObject) → is_owned c k.meta ≡ true → names c.meta.uid k.meta.owners ≡ true
owner_is c k owns = (and_parts (bytes_eq k.meta.namespace c.meta.namespace) (names c.meta.uid k.meta.owners) owns).1

of_owner : (c : Certificate) (key : Key) (k : SecretObject) → names c.meta.uid k.meta.owners ≡ true → is_of (key_of (Cert c)) c key (Some (Secret k)) ≡ true
of_owner c key k owns = or_there (is_at (key_cmp (key_of (Cert c))) key) (is_at (key_cmp (key_of_target c)) key) (names c.meta.uid k.meta.owners) owns

-- ---- whom the write is for

found_is : (m : Objects) (key : Key) (new : Option Object) (one : IsForOneIn m key new) (c : Certificate) (k : SecretObject) → object_at m (key_of (Cert c)) ≡ Some (Cert c) → object_at m key ≡ Some (Secret k) → names c.meta.uid k.meta.owners ≡ true
    → one.own ≡ key_of (Cert c)
found_is m key new one c k was there owns = by one.write.finds where
  by : IsOfOrNone one.own one.write.before key (object_at m key) → one.own ≡ key_of (Cert c)
  by (inl none) = absurd (let e : None ≡ Some (Secret k) = sym none ∙ there in cc e)
  by (inr on) =
      one_certificate m one.parted one.own (key_of (Cert c)) key one.write.before c one.write.was (ap (option_and_then certificate_in) was) on
      (subst (λ (o : Option Object). is_of (key_of (Cert c)) c key o ≡ true) (sym there) (of_owner c key k owns))

left_is : (m : Objects) (key : Key) (c : Certificate) (k : SecretObject) (one : IsForOneIn m key (Some (Secret k))) → key.kind ≡ kinds.Secret → object_at m (key_of (Cert c)) ≡ Some (Cert c) → names c.meta.uid k.meta.owners ≡ true → one.own ≡ key_of (Cert c)
left_is m key c k one kind was owns = by one.write.leaves where
  n : Objects
  n = put_at m key (Some (Secret k))

  by : IsOfOrNone one.own one.write.after key (Some (Secret k)) → one.own ≡ key_of (Cert c)
  by (inl none) = absurd (cc none)
  by (inr on) =
      one_certificate n one.later one.own (key_of (Cert c)) key one.write.after c one.write.is (ap (option_and_then certificate_in) (elsewhere_at m key (Some (Secret k)) (key_of (Cert c)) (no_own c key kind) ∙ was))
      (subst (λ (o : Option Object). is_of one.own one.write.after key o ≡ true) (sym (put_there m key (Some (Secret k)))) on)
      (subst (λ (o : Option Object). is_of (key_of (Cert c)) c key o ≡ true) (sym (put_there m key (Some (Secret k)))) (of_owner c key k owns))

-- ---- the measure

over_next : (s : Setting) (now : ℤ) (m : Objects) (key : Key) (new : Option Object) (c : Certificate) (x y : Option SecretObject) (one : IsForOneIn m key new) → one.own ≡ key_of (Cert c) → object_at m (key_of (Cert c)) ≡ Some (Cert c)
    → (a : IsAmongNext m (put_at m key new) c x y)
    → ((desk : Desk) (due : ℕ) → measure desk due now (the_views (seen_of m (key_of (Cert c))) c (a.first ++ cons_option y a.rest)) < measure desk due now (the_views (seen_of m (key_of (Cert c))) c (a.first ++ cons_option x a.rest)))
    → LowersOver s now m (put_at m key new)
over_next s now m key new c x y one same was a falls =
    let own : Key = key_of (Cert c) in
    lowers_over s now m key new one own (c, ap (option_and_then certificate_in) was) same
    (λ desk due rules.
    subst (λ (v : Views). measure desk due now v < measure desk due now (seen_of m own)) (sym a.is)
    (subst (λ (v : Views). measure desk due now (the_views (seen_of m own) c (a.first ++ cons_option y a.rest)) < measure desk due now v) (sym a.was) (falls desk due)))

-- a next key is deleted
pub dropped_over : (s : Setting) (now : ℤ) (m : Objects) (c : Certificate) (k : SecretObject) (one : IsForOneIn m (key_of (Secret k)) None) → object_at m (key_of (Cert c)) ≡ Some (Cert c) → object_at m (key_of (Secret k)) ≡ Some (Secret k)
    → has_next_label k.meta ≡ true → is_owned c k.meta ≡ true
    → ((desk : Desk) (due : ℕ) (first rest : List SecretObject) → (seen_of m (key_of (Cert c))).next ≡ first ++ k ∷ rest
    → measure desk due now (the_views (seen_of m (key_of (Cert c))) c (first ++ rest)) < measure desk due now (the_views (seen_of m (key_of (Cert c))) c (first ++ k ∷ rest)))
    → LowersOver s now m (put_at m (key_of (Secret k)) None)
dropped_over s now m c k one was there label owns falls =
    let key : Key = key_of (Secret k) in
    let uid = owner_is c k owns in
    let a = among_next m key None c was refl (no_target m key c k one.parted was there uid) (Some k) None (ap (option_and_then (next_in c)) there ∙ next_is c k label owns) refl (ap (option_and_then (owned_in c)) there) refl in
    over_next s now m key None c (Some k) None one (found_is m key None one c k was there uid) was a (λ desk due. falls desk due a.first a.rest a.before)

-- a next key is made
pub made_over : (s : Setting) (now : ℤ) (m : Objects) (key : Key) (c : Certificate) (k : SecretObject) (one : IsForOneIn m key (Some (Secret k))) → key.kind ≡ kinds.Secret → object_at m (key_of (Cert c)) ≡ Some (Cert c) → object_at m key ≡ None
    → has_next_label k.meta ≡ true → is_owned c k.meta ≡ true
    → ((desk : Desk) (due : ℕ) (first rest : List SecretObject) → (seen_of m (key_of (Cert c))).next ≡ first ++ rest
    → measure desk due now (the_views (seen_of m (key_of (Cert c))) c (first ++ k ∷ rest)) < measure desk due now (the_views (seen_of m (key_of (Cert c))) c (first ++ rest)))
    → LowersOver s now m (put_at m key (Some (Secret k)))
made_over s now m key c k one kind was none label owns falls =
    let uid = owner_is c k owns in
    let new : Option Object = Some (Secret k) in
    let n : Objects = put_at m key new in
    let off = no_target n key c k one.later (elsewhere_at m key new (key_of (Cert c)) (no_own c key kind) ∙ was) (put_there m key new) uid in
    let a = among_next m key new c was kind off None (Some k) (ap (option_and_then (next_in c)) none) (next_is c k label owns) (ap (option_and_then (owned_in c)) none) refl in
    over_next s now m key new c None (Some k) one (left_is m key c k one kind was uid) was a (λ desk due. falls desk due a.first a.rest a.before)

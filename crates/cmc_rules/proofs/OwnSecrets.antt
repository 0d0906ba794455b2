-- No two Certificates that stand name one Secret of a namespace.
use Rattle.std.proofs.Common.{◌≡◌, ◌⊎◌, ℕ, ℤ, ◌+◌, List, [], ◌∷◌, Option, Some, None, Bool, true, false, cond, refl, sym, subst, ◌∙◌, inl, inr, Ordering, Less, Equal, Greater}
use Rattle.std.specs.Prelude.{if◌then◌else◌}
use Rattle.std.specs.Ordering.{eq_by_cmp, is_eq}
use Rattle.std.specs.FinMap.{get-empty}
use Rattle.std.specs.Str.{bytes_eq}
use Rattle.std.proofs.lemmas.Slice.Eq.{bytes_eq-Decides}
use Rattle.cmc_meta.specs.declared.key.Key.{Key}
use Rattle.cmc_meta.specs.declared.key.Kind.TheVariants as kinds
use Rattle.cmc_meta.specs.Keys.{key_cmp}
use Rattle.cmc_objects.specs.declared.call.Call.{Call}
use Rattle.cmc_objects.specs.declared.call.Call.TheVariants.{Create, Update, UpdateStatus, Delete, Get}
use Rattle.cmc_objects.specs.declared.certificate.Certificate.{Certificate}
use Rattle.cmc_objects.specs.declared.entry.Entry.{Entry}
use Rattle.cmc_objects.specs.declared.entry.Entry.TheVariants.{Call as Called}
use Rattle.cmc_objects.specs.declared.object.Object.{Object}
use Rattle.cmc_objects.specs.declared.object.Object.TheVariants.{Cert, Request, Secret}
use Rattle.cmc_objects.specs.Objects.{key_of, numbered}
use Rattle.cmc_model.specs.declared.write.Write.{Write}
use Rattle.cmc_model.specs.Acceptance.{IsFounded}
use Rattle.cmc_model.specs.Admission.{shares_secret, is_taken, refusing_rule}
use Rattle.cmc_model.specs.Histories.{Setting, moment, state, objects, accepted}
use Rattle.cmc_model.specs.Objects.{Objects, no_objects, object_at}
use Rattle.cmc_model.specs.Replies.{is_accepted, key_of_call, settled, stored}
use Rattle.cmc_model.specs.Stored.{created, updated, with_status, revised, restated}
use Rattle.cmc_model.specs.Writes.{writes, write_of, contents}
use Rattle.cmc_model.proofs.Accepting.{accepted_found}
use Rattle.cmc_model.proofs.Admission.{admitted_free, is_taken-revised}
use Rattle.cmc_meta.proofs.KeyOrder.{key_cmp-IsAntisymmetric}
use Rattle.cmc_model.proofs.Maps.{one_passes}
use Rattle.cmc_model.proofs.Versions.{keyed, standing, object_at-put}
use Rattle.cmc_model.proofs.Writes.{writes_leave}
use Rattle.cmc_rules.specs.Admitted.{HaveOwnSecrets}
use Rattle.cmc_rules.specs.Legality.{IsLegal}
use Rattle.cmc_rules.proofs.Versions.{lawful}

-- ---- what a write leaves

abbrev IsKeyed : Objects → Type 0
IsKeyed m = (q : Key) (o : Object) → object_at m q ≡ Some o → key_of o ≡ q

-- the Certificate's Secret is free, or what stands under the key names it already
abbrev IsFree : Objects → Key → Option Object → Type 0
IsFree m key None = Unit {0}
IsFree m key (Some (Cert c)) =
    ((key_of (Cert c) ≡ key) × (is_taken m (Cert c) ≡ false))
    ⊎ ((a : Certificate) × (object_at m key ≡ Some (Cert a)) × (a.meta.namespace ≡ c.meta.namespace) × (a.spec.secret_name ≡ c.spec.secret_name))
IsFree m key (Some (Request r)) = Unit {0}
IsFree m key (Some (Secret s)) = Unit {0}

one_name : (c d : Certificate) (differ : Bool) → bytes_eq d.meta.name c.meta.name ≡ differ → d.meta.namespace ≡ c.meta.namespace → d.spec.secret_name ≡ c.spec.secret_name
    → (shares_secret c (Cert d) ≡ true → ⊥) → key_of (Cert d) ≡ key_of (Cert c)
one_name c d true same namespace secret free =
    let name : d.meta.name ≡ c.meta.name = (bytes_eq-Decides d.meta.name c.meta.name).0 same in
    λ i. record { kind = kinds.Certificate; namespace = namespace i; name = name i }
one_name c d false differ namespace secret free =
    absurd (free (rw ((bytes_eq-Decides d.meta.namespace c.meta.namespace).1 namespace, (bytes_eq-Decides d.spec.secret_name c.spec.secret_name).1 secret, differ) refl))

-- the written Certificate and one that stood
with_old : (m : Objects) (key k : Key) (c d : Certificate) → IsKeyed m → HaveOwnSecrets m → IsFree m key (Some (Cert c)) → object_at m k ≡ Some (Cert d)
    → c.meta.namespace ≡ d.meta.namespace → c.spec.secret_name ≡ d.spec.secret_name → key ≡ k
with_old m key k c d keys own (inl new) stands namespace secret =
    let same : key_of (Cert d) ≡ key_of (Cert c) =
    one_name c d (bytes_eq d.meta.name c.meta.name) refl (sym namespace) (sym secret) (λ shares. let taken : is_taken m (Cert c) ≡ true = one_passes (shares_secret c) m k (Cert d) stands shares in absurd (cc (taken, new.1))) in
    sym new.0 ∙ sym same ∙ keys k (Cert d) stands
with_old m key k c d keys own (inr old) stands namespace secret = own key k old.0 d old.1 stands (old.2 ∙ namespace) (old.3 ∙ secret)

tied : (r : Ordering) → is_eq r ≡ true → r ≡ Equal
tied Less e = absurd (cc)
tied Equal e = refl
tied Greater e = absurd (cc)

-- what a lookup finds after the write
found : (m : Objects) (key q : Key) (new : Option Object) (o : Object) (b : Bool) → eq_by_cmp key_cmp q key ≡ b → cond b new (object_at m q) ≡ Some o → ((q ≡ key) × (new ≡ Some o)) ⊎ (object_at m q ≡ Some o)
found m key q new o true e is = inl (key_cmp-IsAntisymmetric q key (tied (key_cmp q key) e), is)
found m key q new o false e is = inr is

own_after : (w : Write) (ws : List Write) → IsKeyed (contents ws) → IsFree (contents ws) w.key w.object → HaveOwnSecrets (contents ws) → HaveOwnSecrets (contents (w ∷ ws))
unfolding contents
own_after w ws keys free own j k c d first second namespace secret = by_found (look j (Cert c) first) (look k (Cert d) second) where
  look : (q : Key) (o : Object) → object_at (contents (w ∷ ws)) q ≡ Some o → ((q ≡ w.key) × (w.object ≡ Some o)) ⊎ (object_at (contents ws) q ≡ Some o)
  look q o is = found (contents ws) w.key q w.object o (eq_by_cmp key_cmp q w.key) refl (sym (object_at-put (contents ws) w.key w.object q) ∙ is)

  by_found : ((j ≡ w.key) × (w.object ≡ Some (Cert c))) ⊎ (object_at (contents ws) j ≡ Some (Cert c)) → ((k ≡ w.key) × (w.object ≡ Some (Cert d))) ⊎ (object_at (contents ws) k ≡ Some (Cert d)) → j ≡ k
  by_found (inl a) (inl b) = a.0 ∙ sym b.0
  by_found (inl a) (inr b) = a.0 ∙ with_old (contents ws) w.key k c d keys own (subst (IsFree (contents ws) w.key) a.1 free) b namespace secret
  by_found (inr a) (inl b) = sym (b.0 ∙ with_old (contents ws) w.key j d c keys own (subst (IsFree (contents ws) w.key) b.1 free) a (sym namespace) (sym secret))
  by_found (inr a) (inr b) = own j k c d a b namespace secret

-- ---- what a call writes

free_created : (n : ℕ) (now : ℤ) (m : Objects) (o : Object) → refusing_rule None o false (is_taken m o) ≡ None → IsFree m (key_of o) (Some (created n now o))
unfolding created
free_created n now m (Cert c) passed = inl (refl, admitted_free m None (Cert c) passed)
free_created n now m (Request r) passed = tt
free_created n now m (Secret s) passed = tt

free_revised : (n : ℕ) (m : Objects) (old o : Object) → object_at m (key_of o) ≡ Some old → key_of old ≡ key_of o → refusing_rule (Some old) o false (is_taken m o) ≡ None
    → IsFree m (key_of o) (Some (revised n old o))
unfolding updated numbered
free_revised n m (Cert a) (Cert b) is same passed = inl (same, is_taken-revised m n (Cert a) (Cert b) same ∙ admitted_free m (Some (Cert a)) (Cert b) passed)
free_revised n m (Cert a) (Request b) is same passed = inr (a, is, refl, refl)
free_revised n m (Cert a) (Secret b) is same passed = inr (a, is, refl, refl)
free_revised n m (Request a) o is same passed = by_object o where
  by_object : (o : Object) → IsFree m (key_of o) (Some (revised n (Request a) o))
  by_object (Cert b) = tt
  by_object (Request b) = tt
  by_object (Secret b) = tt
free_revised n m (Secret a) o is same passed = by_object o where
  by_object : (o : Object) → IsFree m (key_of o) (Some (revised n (Secret a) o))
  by_object (Cert b) = tt
  by_object (Request b) = tt
  by_object (Secret b) = tt

free_restated : (n : ℕ) (m : Objects) (old o : Object) → object_at m (key_of o) ≡ Some old → IsFree m (key_of o) (Some (restated n old o))
unfolding with_status numbered
free_restated n m (Cert a) (Cert b) is = inr (a, is, refl, refl)
free_restated n m (Cert a) (Request b) is = inr (a, is, refl, refl)
free_restated n m (Cert a) (Secret b) is = inr (a, is, refl, refl)
free_restated n m (Request a) (Cert b) is = tt
free_restated n m (Request a) (Request b) is = tt
free_restated n m (Request a) (Secret b) is = tt
free_restated n m (Secret a) (Cert b) is = tt
free_restated n m (Secret a) (Request b) is = tt
free_restated n m (Secret a) (Secret b) is = tt

free_call : (n : ℕ) (now : ℤ) (m : Objects) (call : Call) → IsKeyed m → IsFounded m call → IsFree m (key_of_call call) (stored n now m call)
unfolding IsFounded
free_call n now m (Create object generate) keys is = free_created n now m object is.1
free_call n now m (Update object named) keys is = rw is.1 (free_revised n m is.0 object is.1 (keys (key_of object) is.0 is.1) is.2.passed)
free_call n now m (UpdateStatus object named) keys is = rw is.1 (free_restated n m is.0 object is.1)
free_call n now m (Delete key named) keys is = tt
free_call n now m (Get key) keys is = absurd is

-- ---- histories

own_written : (s : Setting) (h : List Entry) (call : Call) (b : Bool) → IsKeyed (contents (writes s h)) → HaveOwnSecrets (contents (writes s h)) → (b ≡ true → IsFounded (objects s h) call)
    → HaveOwnSecrets (contents (if b then write_of (moment s h) (state s h) call ∷ writes s h else writes s h))
own_written s h call true keys own is =
    own_after (write_of (moment s h) (state s h) call) (writes s h) keys
    (subst (λ (m : Objects). IsFree m (key_of_call call) (stored (accepted s h + 1) (moment s h) (objects s h) call)) (sym (writes_leave s h))
    (free_call (accepted s h + 1) (moment s h) (objects s h) call (subst IsKeyed (writes_leave s h) keys) (is refl))) own
own_written s h call false keys own is = own

own_none : HaveOwnSecrets no_objects
own_none j k c d first second namespace secret = absurd (let none : object_at no_objects j ≡ None = get-empty key_cmp j in cc (none, first))

own_writes : (s : Setting) (h : List Entry) → IsLegal s h → HaveOwnSecrets (contents (writes s h))
unfolding IsLegal contents
own_writes s [] legal = own_none
own_writes s (Called who call reply ∷ h) legal =
    own_written s h (settled call reply) (is_accepted reply)
    (λ q o is. keyed (writes s h) q o (lawful s h legal.1) (standing (writes s h) q o is)) (own_writes s h legal.1)
    (λ ok. accepted_found s.faults (state s h) call reply legal.0.0 ok)
own_writes s (other ∷ h) legal = own_writes s h legal.1

pub own_secrets : (s : Setting) (h : List Entry) → IsLegal s h → HaveOwnSecrets (objects s h)
own_secrets s h legal = subst HaveOwnSecrets (writes_leave s h) (own_writes s h legal)

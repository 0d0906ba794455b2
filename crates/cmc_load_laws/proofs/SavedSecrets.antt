-- What the Secret of an issuance is like once its call was served.
use Rattle.std.proofs.Common.{◌≡◌, ◌+◌, ◌==◌, ℕ, List, Bool, true, false, Option, Some, None, refl, sym, ap, subst, ◌∙◌, inl, inr}
use Rattle.std.specs.List.{list_any}
use Rattle.std.specs.Prelude.{MatchBool}
use Rattle.cmc_meta.specs.declared.key.Key.{Key}
use Rattle.cmc_objects.specs.declared.certificate.Certificate.{Certificate}
use Rattle.cmc_objects.specs.declared.secret.Secret.{Secret as SecretObject}
use Rattle.cmc_objects.specs.declared.object.Object.{Object}
use Rattle.cmc_objects.specs.declared.object.Object.TheVariants.{Cert, Request, Secret}
use Rattle.cmc_objects.specs.declared.call.Call.{Call}
use Rattle.cmc_objects.specs.declared.call.Reply.{Reply}
use Rattle.cmc_objects.specs.declared.call.Reply.TheVariants.{Ok, Unchanged, Conflict, Unavailable}
use Rattle.cmc_objects.specs.declared.entry.Entry.{Entry}
use Rattle.cmc_objects.specs.Objects.{key_of, name_of, numbered, version_of}
use Rattle.cmc_model.specs.Admission.{is_taken, refusing_rule}
use Rattle.cmc_model.specs.Objects.{object_at}
use Rattle.cmc_model.specs.Replies.{IsAdmitted, IsChange, IsCreated, IsReply, IsUpdated, from_old, key_of_call, settled, stored}
use Rattle.cmc_model.specs.Stored.{created, revised, updated}
use Rattle.cmc_model.specs.Histories.{Setting, moment, state, objects, accepted}
use Rattle.cmc_rules.specs.Issuance.{new_target, old_target, secret_call}
use Rattle.cmc_run_laws.specs.Issuances.{IsAsWritten}
use Rattle.cmc_load_laws.specs.Frame.{key_of_target}

-- ---- what was accepted

-- the Secret that is stored, under the key of the target
pub record IsSavedAs (s : Setting) (h : List Entry) (call : Call) (reply : Reply) (c : Certificate) : Type 0 where
  pub k : SecretObject
  pub key : key_of_call (settled call reply) ≡ key_of_target c
  pub is : stored (accepted s h + 1) (moment s h) (objects s h) (settled call reply) ≡ Some (Secret k)
  pub written : IsAsWritten call k

saved_new : (s : Setting) (h : List Entry) (reply : Reply) (c : Certificate) (file certificate ca : List ℕ) → IsSavedAs s h (secret_call false c file certificate ca None) reply c
unfolding settled secret_call new_target created
saved_new s h reply c file certificate ca = record { k = _; key = refl; is = refl; written = record { new = _; writes = refl; annotations = refl; parts = refl } }

saved_old : (s : Setting) (h : List Entry) (reply : Reply) (c : Certificate) (file certificate ca : List ℕ) (old : SecretObject) (place : Key) → place ≡ key_of_target c → place ≡ key_of (Secret old) → object_at (objects s h) place ≡ Some (Secret old)
    → IsSavedAs s h (secret_call false c file certificate ca (Some old)) reply c
unfolding settled secret_call old_target numbered updated
saved_old s h reply c file certificate ca old place target own there = record {
  k = _;
  key = sym own ∙ target;
  is = ap (from_old (λ (o : Object). revised (accepted s h + 1) o (Secret (old_target false c file certificate ca old)))) (ap (object_at (objects s h)) (sym own) ∙ there);
  written = record { new = _; writes = refl; annotations = refl; parts = refl };
}

pub saved_as : (s : Setting) (h : List Entry) (reply : Reply) (c : Certificate) (file certificate ca : List ℕ) (target : Option SecretObject) → ((old : SecretObject) → target ≡ Some old → (key_of_target c ≡ key_of (Secret old)) × (object_at (objects s h) (key_of_target c) ≡ Some (Secret old)))
    → IsSavedAs s h (secret_call false c file certificate ca target) reply c
saved_as s h reply c file certificate ca None there = saved_new s h reply c file certificate ca
saved_as s h reply c file certificate ca (Some old) there = let at = there old refl in saved_old s h reply c file certificate ca old (key_of_target c) refl at.0 at.1

-- ---- what was left unchanged

at_version : (b : Bool) (A : Type 0) (v named have : ℕ) → MatchBool b A (Unchanged v ≡ Conflict named have) → A
at_version true A v named have is = is
at_version false A v named have is = absurd (cc is)

admitted : (rule : Option ℕ) (A : Type 0) (v : ℕ) → IsAdmitted rule A (Unchanged v) → A
admitted None A v is = is
admitted (Some rule) A v is = absurd (cc is)

no_change : (n v : ℕ) (name : List ℕ) (old new : Object) → IsChange n name old new (Unchanged v) → new ≡ old
no_change n v name old new (inl same) = same.0
no_change n v name old new (inr other) = absurd (cc other.1)

unchanged_by : (n v named : ℕ) (taken : Bool) (object old : Object) → IsUpdated n taken object named (Some old) (Unchanged v) → updated old object ≡ old
unchanged_by n v named taken object old is =
    no_change n v _ old (updated old object) (admitted (refusing_rule (Some old) object false taken) _ v (at_version (named == version_of old) _ v named (version_of old) is))

unfailed : (b : Bool) (A : Type 0) (v number : ℕ) → MatchBool b (Unchanged v ≡ Unavailable number) A → A
unfailed true A v number is = absurd (cc is)
unfailed false A v number is = is

same_secret : (old new : SecretObject) → updated (Secret old) (Secret new) ≡ Secret old → (old.meta.annotations ≡ new.meta.annotations) × (old.parts ≡ new.parts)
unfolding updated
same_secret old new is = (sym (ap annotations_in is), sym (ap parts_in is)) where
  annotations_in : Object → List (List ℕ × List ℕ)
  annotations_in (Cert c) = old.meta.annotations
  annotations_in (Request r) = old.meta.annotations
  annotations_in (Secret k) = k.meta.annotations

  parts_in : Object → List (List ℕ × List ℕ)
  parts_in (Cert c) = old.parts
  parts_in (Request r) = old.parts
  parts_in (Secret k) = k.parts

created_never : (n v : ℕ) (taken : Bool) (object : Object) (old : Option Object) → IsCreated n taken object old (Unchanged v) → ⊥
created_never n v taken object (Some old) is = absurd (cc is)
created_never n v taken object None is = absurd (let no : Unchanged v ≡ Ok (n + 1) (name_of object) = admitted (refusing_rule None object false taken) _ v is in cc no)

-- the target that is seen is as the call writes it
pub left_as : (s : Setting) (h : List Entry) (v : ℕ) (c : Certificate) (file certificate ca : List ℕ) (target : Option SecretObject) → ((old : SecretObject) → target ≡ Some old → (key_of_target c ≡ key_of (Secret old)) × (object_at (objects s h) (key_of_target c) ≡ Some (Secret old)))
    → IsReply s.faults (state s h) (secret_call false c file certificate ca target) (Unchanged v) → (k : SecretObject) × (target ≡ Some k) × IsAsWritten (secret_call false c file certificate ca target) k
unfolding secret_call old_target
left_as s h v c file certificate ca None there right =
    absurd (created_never (accepted s h) v _ (Secret (new_target false c file certificate ca)) (object_at (objects s h) (key_of (Secret (new_target false c file certificate ca)))) (unfailed (list_any (λ (n : ℕ). n == (state s h).calls + 1) s.faults) _ v ((state s h).calls + 1) right))
left_as s h v c file certificate ca (Some old) there right =
    let at = there old refl in
    let new : SecretObject = old_target false c file certificate ca old in
    let served = unfailed (list_any (λ (n : ℕ). n == (state s h).calls + 1) s.faults) _ v ((state s h).calls + 1) right in
    let stands : object_at (objects s h) (key_of (Secret old)) ≡ Some (Secret old) = ap (object_at (objects s h)) (sym at.0) ∙ at.1 in
    let same = unchanged_by (accepted s h) v old.meta.version (is_taken (objects s h) (Secret new)) (Secret new) (Secret old)
    (subst (λ (o : Option Object). IsUpdated (accepted s h) (is_taken (objects s h) (Secret new)) (Secret new) old.meta.version o (Unchanged v)) stands served) in
    let two = same_secret old new same in
    (old, refl, record { new = new; writes = refl; annotations = two.0; parts = two.1 })

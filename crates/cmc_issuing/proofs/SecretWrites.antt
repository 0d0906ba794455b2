-- The write of the Certificate's Secret: what stands in it then, and that no rule refuses it.
use Rattle.std.proofs.Common.{◌≡◌, ◌∙◌, ◌&&◌, ◌||◌, ℕ, ℤ, List, [], ◌∷◌, Bool, true, false, not, Option, Some, None, refl, ap, subst, inl, inr}
use Rattle.std.specs.Prelude.{codes, if◌then◌else◌}
use Rattle.std.specs.Option.{is_some}
use Rattle.std.specs.Str.{bytes_eq}
use Rattle.std.proofs.lemmas.Slice.Eq.{bytes_eq-Decides}
use Rattle.cmc_meta.specs.PairLists.{text_by_key, with_text}
use Rattle.cmc_objects.specs.declared.certificate.Certificate.{Certificate}
use Rattle.cmc_objects.specs.declared.secret.Secret.{Secret as SecretObject}
use Rattle.cmc_objects.specs.declared.object.Object.{Object}
use Rattle.cmc_objects.specs.declared.object.Object.TheVariants.{Secret}
use Rattle.cmc_objects.specs.declared.role.Role.TheVariants.{Issuing}
use Rattle.cmc_match.specs.Facts.{key_in, certificate_file_in}
use Rattle.cmc_match.specs.Marks.{is_text, is_next_key, is_temporary}
use Rattle.cmc_pass.specs.declared.pass.Views.{Views}
use Rattle.cmc_model.specs.Admission.{changes_type, lacks, is_tls_incomplete, refusing_rule}
use Rattle.cmc_objects.specs.Objects.{numbered}
use Rattle.cmc_model.specs.Stored.{created, updated, revised}
use Rattle.cmc_rules.specs.Passes.{writes_temporary}
use Rattle.cmc_rules.specs.Safety.{IsSecretWrite}
use Rattle.cmc_rules.specs.Views.{is_text_true, has_next_label}
use Rattle.cmc_rules.specs.SeenObjects.{IsWellSeen, OnSeen}
use Rattle.cmc_rules.specs.Sound.{WritesTarget}
use Rattle.cmc_rules.specs.Issuance.{signed_marks, marks, with_ca, filled, new_target, old_target, secret_call, is_kept_for_keys}
use Rattle.cmc_rules.proofs.Sights.{seen_secret}
use Rattle.cmc_issuing.proofs.PairLists.{is_name, put_stands, put_beside, out_of, out_beside}

-- ---- the parts and the mark

ca_beside : (ca : List ℕ) (parts : List (List ℕ × List ℕ)) (name : List ℕ) → is_name name (codes "ca.crt") ≡ false → text_by_key (with_ca ca parts) name ≡ text_by_key parts name
ca_beside [] parts name apart = out_beside parts (codes "ca.crt") name apart
ca_beside (b ∷ ca) parts name apart = put_beside parts (codes "ca.crt") (b ∷ ca) name apart

filled_key : (key certificate ca : List ℕ) (parts : List (List ℕ × List ℕ)) → text_by_key (filled key certificate ca parts) (codes "tls.key") ≡ Some key
unfolding filled
filled_key key certificate ca parts =
    ca_beside ca (with_text (with_text parts (codes "tls.key") key) (codes "tls.crt") certificate) (codes "tls.key") refl
    ∙ put_beside (with_text parts (codes "tls.key") key) (codes "tls.crt") certificate (codes "tls.key") refl
    ∙ put_stands parts (codes "tls.key") key

filled_certificate : (key certificate ca : List ℕ) (parts : List (List ℕ × List ℕ)) → text_by_key (filled key certificate ca parts) (codes "tls.crt") ≡ Some certificate
unfolding filled
filled_certificate key certificate ca parts =
    ca_beside ca (with_text (with_text parts (codes "tls.key") key) (codes "tls.crt") certificate) (codes "tls.crt") refl
    ∙ put_stands (with_text parts (codes "tls.key") key) (codes "tls.crt") certificate

filled_no_ca : (key certificate ca : List ℕ) (parts : List (List ℕ × List ℕ)) → ca ≡ [] → text_by_key (filled key certificate ca parts) (codes "ca.crt") ≡ None
unfolding filled
filled_no_ca key certificate ca parts none =
    ap (λ (x : List ℕ). text_by_key (with_ca x (with_text (with_text parts (codes "tls.key") key) (codes "tls.crt") certificate)) (codes "ca.crt")) none
    ∙ out_of (with_text (with_text parts (codes "tls.key") key) (codes "tls.crt") certificate) (codes "ca.crt")

marks_mark : (stand_in : Bool) (c : Certificate) (pairs : List (List ℕ × List ℕ)) → is_text (text_by_key (marks stand_in c pairs) (codes "cert-manager.io/temporary-certificate")) (codes "true") ≡ stand_in
unfolding marks
marks_mark true c pairs =
    ap (λ (o : Option (List ℕ)). is_text o (codes "true")) (put_stands (signed_marks c pairs) (codes "cert-manager.io/temporary-certificate") (codes "true"))
marks_mark false c pairs =
    ap (λ (o : Option (List ℕ)). is_text o (codes "true")) (out_of (signed_marks c pairs) (codes "cert-manager.io/temporary-certificate"))

-- ---- what is written

-- the Secret under the name that the Certificate gives, with this key, this certificate and no other CA's certificate
pub record HasContent (stand_in : Bool) (c : Certificate) (key certificate ca : List ℕ) (k : SecretObject) : Type 0 where
  pub namespace : k.meta.namespace ≡ c.meta.namespace
  pub name : k.meta.name ≡ c.spec.secret_name
  pub unlabelled : has_next_label k.meta ≡ false
  pub has_key : key_in k ≡ Some key
  pub has_certificate : certificate_file_in k ≡ Some certificate
  pub marked : is_temporary k ≡ stand_in
  pub no_ca : ca ≡ [] → text_by_key k.parts (codes "ca.crt") ≡ None

is_that : (j k : SecretObject) → Some (Secret j) ≡ Some (Secret k) → j ≡ k
is_that j k is = cc is

moved : (P : SecretObject → Type 0) (made written : SecretObject) → Some (Secret made) ≡ Some (Secret written) → P made → P written
moved P made written is holds = subst P (is_that made written is) holds

new_written : (P : SecretObject → Type 0) (stand_in : Bool) (c : Certificate) (key certificate ca : List ℕ) (now : ℤ) (next : ℕ) (at : ℤ)
    → ((k : SecretObject) → HasContent stand_in c key certificate ca k → P k)
    → WritesTarget Issuing now P None (Some (created next at (Secret (new_target stand_in c key certificate ca))))
unfolding created new_target
new_written P stand_in c key certificate ca now next at holds = record {
  rights = inl refl;
  dated = λ timed dated. tt;
  revision = refl;
  target = λ written is. moved P _ written is (holds _ (record {
    namespace = refl;
    name = refl;
    unlabelled = refl;
    has_key = filled_key key certificate ca [];
    has_certificate = filled_certificate key certificate ca [];
    marked = marks_mark stand_in c [];
    no_ca = filled_no_ca key certificate ca [];
  }));
}

old_written : (P : SecretObject → Type 0) (stand_in : Bool) (c : Certificate) (key certificate ca : List ℕ) (now : ℤ) (old : SecretObject) (next : ℕ)
    → old.meta.namespace ≡ c.meta.namespace → old.meta.name ≡ c.spec.secret_name → has_next_label old.meta ≡ false
    → ((k : SecretObject) → HasContent stand_in c key certificate ca k → P k)
    → WritesTarget Issuing now P (Some (Secret old)) (Some (revised next (Secret old) (Secret (old_target stand_in c key certificate ca old))))
unfolding updated numbered old_target
old_written P stand_in c key certificate ca now old next namespace name bare holds = record {
  rights = inr (inl (bare, bare));
  dated = λ timed dated. tt;
  revision = refl;
  target = λ written is. moved P _ written is (holds _ (record {
    namespace = namespace;
    name = name;
    unlabelled = bare;
    has_key = filled_key key certificate ca old.parts;
    has_certificate = filled_certificate key certificate ca old.parts;
    marked = marks_mark stand_in c old.meta.annotations;
    no_ca = filled_no_ca key certificate ca old.parts;
  }));
}

-- ---- no rule refuses it: both parts stand, and the type stays

neither : (t a b : Bool) → a ≡ false → b ≡ false → (t && (a || b)) ≡ false
neither true true b e f = absurd (cc e)
neither true false b e f = f
neither false a b e f = refl

complete : (k : SecretObject) (key certificate : List ℕ) → key_in k ≡ Some key → certificate_file_in k ≡ Some certificate → is_tls_incomplete k ≡ false
complete k key certificate first second =
    neither (bytes_eq k.kind_text (codes "kubernetes.io/tls")) (lacks (codes "tls.key") k) (lacks (codes "tls.crt") k)
    (ap (λ (o : Option (List ℕ)). not (is_some o)) first)
    (ap (λ (o : Option (List ℕ)). not (is_some o)) second)

secret_passes : (old : Option Object) (k : SecretObject) (taken : Bool) → changes_type old k ≡ false → is_tls_incomplete k ≡ false → refusing_rule old (Secret k) false taken ≡ None
unfolding refusing_rule
secret_passes old k taken same whole =
    ap (λ (t : Bool). if (t || is_tls_incomplete k) then Some 14 else None) same ∙ ap (λ (t : Bool). if t then Some 14 else None) whole

new_passes : (stand_in : Bool) (c : Certificate) (key certificate ca : List ℕ) (taken : Bool) → refusing_rule None (Secret (new_target stand_in c key certificate ca)) false taken ≡ None
unfolding new_target
new_passes stand_in c key certificate ca taken =
    secret_passes None (new_target stand_in c key certificate ca) taken refl
    (complete (new_target stand_in c key certificate ca) key certificate (filled_key key certificate ca []) (filled_certificate key certificate ca []))

old_passes : (stand_in : Bool) (c : Certificate) (key certificate ca : List ℕ) (old : SecretObject) (taken : Bool)
    → refusing_rule (Some (Secret old)) (Secret (old_target stand_in c key certificate ca old)) false taken ≡ None
unfolding old_target
old_passes stand_in c key certificate ca old taken =
    secret_passes (Some (Secret old)) (old_target stand_in c key certificate ca old) taken (ap not ((bytes_eq-Decides old.kind_text old.kind_text).1 refl))
    (complete (old_target stand_in c key certificate ca old) key certificate (filled_key key certificate ca old.parts) (filled_certificate key certificate ca old.parts))

-- ---- the call

no_label : (o : Option (List ℕ)) → is_text o (codes "true") ≡ false → is_text_true o ≡ false
no_label None is = refl
no_label (Some text) is = is

bare_of : (old : SecretObject) → is_next_key old ≡ false → has_next_label old.meta ≡ false
bare_of old is = no_label (text_by_key old.meta.labels (codes "cert-manager.io/next-private-key")) is

pub secret_written : (P : SecretObject → Type 0) (seen : Views) (now : ℤ) (stand_in : Bool) (c : Certificate) (key certificate ca : List ℕ) (target : Option SecretObject)
    → IsWellSeen seen → seen.certificate ≡ Some c → seen.secret ≡ target → is_kept_for_keys target ≡ false
    → ((k : SecretObject) → HasContent stand_in c key certificate ca k → P k)
    → OnSeen (WritesTarget Issuing now P) seen (secret_call stand_in c key certificate ca target)
unfolding secret_call OnSeen old_target
secret_written P seen now stand_in c key certificate ca None well sees is free holds = record {
  makes = λ next at. new_written P stand_in c key certificate ca now next at holds;
  passes = λ taken. new_passes stand_in c key certificate ca taken;
}
secret_written P seen now stand_in c key certificate ca (Some old) well sees is free holds = record {
  old = Secret old;
  sees = seen_secret seen old is;
  key = refl;
  version = refl;
  changes = λ next. old_written P stand_in c key certificate ca now old next (well.target_namespace c old sees is) (well.target_name c old sees is) (bare_of old free) holds;
  passes = λ taken. old_passes stand_in c key certificate ca old taken;
}

pub secret_unmarked : (c : Certificate) (key certificate ca : List ℕ) (target : Option SecretObject) → IsSecretWrite (secret_call false c key certificate ca target)
unfolding secret_call new_target old_target
secret_unmarked c key certificate ca None = marks_mark false c []
secret_unmarked c key certificate ca (Some old) = marks_mark false c old.meta.annotations

pub secret_marked : (c : Certificate) (key certificate ca : List ℕ) (target : Option SecretObject) → writes_temporary (secret_call true c key certificate ca target) ≡ true
unfolding secret_call new_target old_target
secret_marked c key certificate ca None = marks_mark true c []
secret_marked c key certificate ca (Some old) = marks_mark true c old.meta.annotations

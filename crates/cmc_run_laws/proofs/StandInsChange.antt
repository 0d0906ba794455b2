-- A stand-in certificate is written only where it changes the Secret.
use Rattle.std.proofs.Common.{◌≡◌, ℕ, ℤ, List, [], length, Option, Some, None, Bool, true, false, ◌&&◌, not, refl, sym, ap, subst, ◌∙◌, inl, inr}
use Rattle.std.proofs.lemmas.Bool.{and_parts}
use Rattle.std.specs.Prelude.{if◌then◌else◌, codes, nat_le}
use Rattle.cmc_der.specs.Keys.{PublicKey, CertificateFields}
use Rattle.cmc_meta.specs.declared.key.Key.{Key}
use Rattle.cmc_meta.specs.PairLists.{text_by_key}
use Rattle.cmc_x509.specs.ReadKeys.{key_file_at}
use Rattle.cmc_x509.specs.ReadCertificates.{certificate_fields_at}
use Rattle.cmc_objects.specs.declared.certificate.Certificate.{Certificate}
use Rattle.cmc_objects.specs.declared.request.CertificateRequest.{CertificateRequest}
use Rattle.cmc_objects.specs.declared.secret.Secret.{Secret as SecretObject}
use Rattle.cmc_objects.specs.declared.object.Object.{Object}
use Rattle.cmc_objects.specs.declared.object.Object.TheVariants.{Cert, Request, Secret}
use Rattle.cmc_objects.specs.declared.role.Role.{Role}
use Rattle.cmc_objects.specs.KeyPairs.{is_one_key, fields_with_key}
use Rattle.cmc_objects.specs.Objects.{key_of}
use Rattle.cmc_objects.specs.Requests.{is_denied, is_run_time}
use Rattle.cmc_answers.specs.Temporary.{temporary}
use Rattle.cmc_match.specs.Facts.{certificate_file_in, fits, key_in, pair_in}
use Rattle.cmc_match.specs.Marks.{asks_for_temporary, is_temporary}
use Rattle.cmc_match.specs.Revisions.{next_request}
use Rattle.cmc_match.proofs.PairLaws.{pair_again}
use Rattle.cmc_model.specs.Stored.{revised, updated, generation_after, merged_meta}
use Rattle.cmc_objects.specs.Objects.{numbered}
use Rattle.cmc_pass.specs.declared.pass.Views.{Views}
use Rattle.cmc_pass.specs.declared.pass.Act.{Act}
use Rattle.cmc_pass.specs.declared.pass.Act.TheVariants.{Nothing, Issue, Temporary}
use Rattle.cmc_pass.specs.declared.pass.TemporaryPlan.{TemporaryPlan}
use Rattle.cmc_rules.specs.Issuance.{issuing, issuing_of, with_key_of, with_file, with_request, with_wanted, with_granted, while_waiting, temporary_with, temporary_plan, is_granted, is_certified, is_kept_for_keys, lacks_certificate, lacks_pair, is_of_file, failure, fails_now, refusal, issue_plan, secret_call, new_target, old_target, filled}
use Rattle.cmc_rules.specs.NextKeys.{named_key}
use Rattle.cmc_rules.specs.NextRequests.{is_refused, is_wanted}
use Rattle.cmc_rules.specs.SeenObjects.{IsPart, ForSeen, OnSeen}
use Rattle.cmc_rules.specs.Sound.{IsMarked, IsTemporaryPlan, WritesTarget}
use Rattle.cmc_rules.specs.Trigger.{is_issuing}
use Rattle.cmc_rules.proofs.Lines.{by_test}
use Rattle.cmc_run_laws.proofs.IdleCalls.{ChangesSeen}
use Rattle.cmc_run_laws.proofs.Issued.{filled_key, filled_certificate, secret_pair}

-- ---- where a stand-in is written

-- the plan is one for the Certificate that is seen, whose Secret lacks a certificate for the key
pub record IsLacking (seen : Views) (plan : TemporaryPlan) : Type 0 where
  pub certificate : Certificate
  pub file : List ℕ
  pub made : List ℕ
  pub planned : plan.secret ≡ secret_call true certificate file made [] seen.secret
  pub lacks : lacks_certificate file seen.secret ≡ true

abbrev StandsInWell : Views → Act → Type 0
StandsInWell seen (Temporary plan) = IsLacking seen plan
StandsInWell seen other = Unit {0}

of_failure : (seen : Views) (moment : ℤ) (reason : List ℕ) (c : Certificate) → StandsInWell seen (failure moment reason c)
unfolding failure
of_failure seen moment reason c = tt

of_plan : (seen : Views) (c : Certificate) (file made : List ℕ) → lacks_certificate file seen.secret ≡ true → StandsInWell seen (Temporary (temporary_plan c file made seen.secret))
unfolding temporary_plan
of_plan seen c file made lacks = record { certificate = c; file = file; made = made; planned = refl; lacks = lacks }

of_stand_in : (seen : Views) (c : Certificate) (file : List ℕ) (made : Option (List ℕ)) → lacks_certificate file seen.secret ≡ true → StandsInWell seen (temporary_with c file seen.secret made)
of_stand_in seen c file None lacks = tt
of_stand_in seen c file (Some made) lacks = by_test (StandsInWell seen) (nat_le (length made) 16777216) _ _ (λ small. of_plan seen c file made lacks) (λ large. tt)

of_waiting : (seen : Views) (moment : ℤ) (c : Certificate) (file : List ℕ) (r : CertificateRequest) → StandsInWell seen (while_waiting moment c file seen.secret r)
of_waiting seen moment c file r =
    by_test (StandsInWell seen) (asks_for_temporary c && (not (is_denied r) && (not (is_kept_for_keys seen.secret) && lacks_certificate file seen.secret))) _ _
    (λ on. of_stand_in seen c file (temporary r.spec.request file moment)
    (and_parts (not (is_kept_for_keys seen.secret)) (lacks_certificate file seen.secret)
    (and_parts (not (is_denied r)) (not (is_kept_for_keys seen.secret) && lacks_certificate file seen.secret)
    (and_parts (asks_for_temporary c) (not (is_denied r) && (not (is_kept_for_keys seen.secret) && lacks_certificate file seen.secret)) on).1).1).1)
    (λ off. tt)

of_granted : (seen : Views) (moment : ℤ) (c : Certificate) (file : List ℕ) (r : CertificateRequest) → StandsInWell seen (with_granted moment c file seen.secret r)
of_granted seen moment c file r =
    by_test (StandsInWell seen) (is_certified file r.status.certificate) _ _
    (λ read. by_test (StandsInWell seen) (is_kept_for_keys seen.secret) Nothing (Issue (issue_plan moment c file r seen.secret)) (λ kept. tt) (λ free. tt))
    (λ foreign. of_failure seen moment _ c)

of_wanted : (seen : Views) (moment : ℤ) (c : Certificate) (file : List ℕ) (r : CertificateRequest) → StandsInWell seen (with_wanted moment c file seen.secret r)
of_wanted seen moment c file r =
    by_test (StandsInWell seen) (is_refused r) _ _
    (λ refused. by_test (StandsInWell seen) (fails_now c r r.status.failure) (failure moment (refusal r) c) Nothing (λ failed. of_failure seen moment (refusal r) c) (λ before. tt))
    (λ stands. by_test (StandsInWell seen) (is_granted r) _ _ (λ granted. of_granted seen moment c file r) (λ waits. of_waiting seen moment c file r))

of_request : (seen : Views) (moment : ℤ) (c : Certificate) (file : List ℕ) (next : Option CertificateRequest) → StandsInWell seen (with_request moment c file seen.secret next)
of_request seen moment c file None = tt
of_request seen moment c file (Some r) = by_test (StandsInWell seen) (is_wanted c file r) _ _ (λ on. of_wanted seen moment c file r) (λ off. tt)

of_file : (seen : Views) (moment : ℤ) (c : Certificate) (file : Option (List ℕ)) → StandsInWell seen (with_file moment c seen.secret seen.requests file)
of_file seen moment c None = tt
of_file seen moment c (Some file) = by_test (StandsInWell seen) (fits c.spec.key file) _ _ (λ fit. of_request seen moment c file (next_request c.status.revision seen.requests)) (λ off. tt)

of_key : (seen : Views) (moment : ℤ) (c : Certificate) (k : Option SecretObject) → StandsInWell seen (with_key_of moment c seen.secret seen.requests k)
of_key seen moment c None = tt
of_key seen moment c (Some k) = of_file seen moment c (key_in k)

of_certificate : (seen : Views) (moment : ℤ) (c : Option Certificate) → StandsInWell seen (issuing_of moment seen.next seen.secret seen.requests c)
of_certificate seen moment None = tt
of_certificate seen moment (Some c) = by_test (StandsInWell seen) (is_issuing c) _ _ (λ on. of_key seen moment c (named_key c.status.next_key seen.next)) (λ off. tt)

stands_in_well : (seen : Views) (moment : ℤ) → StandsInWell seen (issuing seen moment)
unfolding issuing
stands_in_well seen moment = of_certificate seen moment seen.certificate

pub lacking : (seen : Views) (moment : ℤ) (plan : TemporaryPlan) → issuing seen moment ≡ Temporary plan → IsLacking seen plan
lacking seen moment plan is = subst (StandsInWell seen) is (stands_in_well seen moment)

-- ---- the pair that is written

parts_of : SecretObject → Object → List (List ℕ × List ℕ)
parts_of none (Cert c) = none.parts
parts_of none (Request r) = none.parts
parts_of none (Secret k) = k.parts

kind_text : (o : Object) (k : SecretObject) → (key_of o).kind ≡ (key_of (Secret k)).kind → (j : SecretObject) × (o ≡ Secret j)
kind_text (Cert c) k is = absurd (cc is)
kind_text (Request r) k is = absurd (cc is)
kind_text (Secret j) k is = (j, refl)

-- what an update of a Secret stores has the data of the call
revised_secret : (next : ℕ) (j new : SecretObject) → (w : SecretObject) × (revised next (Secret j) (Secret new) ≡ Secret w) × (w.parts ≡ new.parts)
unfolding updated numbered
revised_secret next j new = (
  record { meta = record (merged_meta j.meta new.meta) { version = next; generation = generation_after (Secret j) (Secret (record { meta = merged_meta j.meta new.meta; kind_text = j.kind_text; parts = new.parts })) }; kind_text = j.kind_text; parts = new.parts },
  refl,
  refl,
)

-- a pair for the key is not lacked
not_lacking : (key : Option PublicKey) (certificate : Option CertificateFields) (fields : CertificateFields) → fields_with_key key certificate ≡ Some fields → is_of_file key fields.key ≡ true
not_lacking None certificate fields is = absurd (cc is)
not_lacking (Some own) None fields is = absurd (cc is)
not_lacking (Some own) (Some found) fields is = by (is_one_key own found.key) refl is where
  by : (b : Bool) → is_one_key own found.key ≡ b → (if b then Some found else None) ≡ Some fields → is_one_key own fields.key ≡ true
  by true e some = let same : found ≡ fields = cc some in subst (λ (f : CertificateFields). is_one_key own f.key ≡ true) same e
  by false e some = absurd (cc some)

no_pair_lacked : (file made : List ℕ) (k : SecretObject) (fields : CertificateFields) → pair_in k ≡ Some fields → fields_with_key (key_file_at file) (certificate_fields_at made) ≡ Some fields → lacks_pair file k (pair_in k) ≡ true → ⊥
no_pair_lacked file made k fields is pair lacks =
    let off : lacks_pair file k (pair_in k) ≡ false =
    ap (lacks_pair file k) is ∙ ap (λ (b : Bool). is_temporary k && not b) (not_lacking (key_file_at file) (certificate_fields_at made) fields pair) ∙ none (is_temporary k) in
    cc (lacks, off)
  where
    none : (b : Bool) → (b && false) ≡ false
    none true = refl
    none false = refl

-- the pair of what an update with this key and this certificate stores
written_pair : (c d : Certificate) (r : CertificateRequest) (file other made : List ℕ) (role : Role) (now : ℤ) (k new : SecretObject) (seen : Views) (rule : Object → Bool → Option ℕ) → is_run_time now ≡ true → new.parts ≡ filled file made [] k.parts
    → ForSeen (WritesTarget role now (IsMarked d r other now)) seen (key_of (Secret new)) k.meta.version (λ next old. Some (revised next old (Secret new))) rule
    → (fields : CertificateFields) × (fields_with_key (key_file_at file) (certificate_fields_at made) ≡ Some fields)
written_pair c d r file other made role now k new seen rule run parts on =
    let old = kind_text on.old new (ap (λ (q : Key). q.kind) on.key) in
    let w = revised_secret 0 old.0 new in
    let stored : Some (revised 0 on.old (Secret new)) ≡ Some (Secret w.0) = ap (λ (o : Object). Some (revised 0 o (Secret new))) old.1 ∙ ap Some w.1 in
    let target = ((on.changes 0).target w.0 stored).target run in
    let whole : w.0.parts ≡ filled file made [] k.parts = w.2 ∙ parts in
    let key : key_in w.0 ≡ Some file = ap (λ (l : List (List ℕ × List ℕ)). text_by_key l (codes "tls.key")) whole ∙ filled_key file made [] k.parts in
    let certificate : certificate_file_in w.0 ≡ Some made = ap (λ (l : List (List ℕ × List ℕ)). text_by_key l (codes "tls.crt")) whole ∙ filled_certificate file made [] k.parts in
    (target.fields, sym (secret_pair w.0 file made key certificate) ∙ pair_again w.0 target.fields target.pair)

changes_target : (seen : Views) (c d : Certificate) (r : CertificateRequest) (file other made : List ℕ) (role : Role) (now : ℤ) (target : Option SecretObject) → seen.secret ≡ target → is_run_time now ≡ true → lacks_certificate file target ≡ true
    → OnSeen (WritesTarget role now (IsMarked d r other now)) seen (secret_call true c file made [] target) → ChangesSeen seen (secret_call true c file made [] target)
unfolding OnSeen secret_call new_target old_target updated parts_of
changes_target seen c d r file other made role now None sees run lacks on = tt
changes_target seen c d r file other made role now (Some k) sees run lacks on = (
  Secret k,
  inr (inl (subst (λ (x : Option SecretObject). IsPart Secret x (Secret k)) (sym sees) refl)),
  refl,
  λ same.
      let pair = written_pair c d r file other made role now k (old_target true c file made [] k) seen _ run refl on in
      let parts : filled file made [] k.parts ≡ k.parts = ap (parts_of k) same in
      let key : key_in k ≡ Some file = ap (λ (l : List (List ℕ × List ℕ)). text_by_key l (codes "tls.key")) (sym parts) ∙ filled_key file made [] k.parts in
      let certificate : certificate_file_in k ≡ Some made = ap (λ (l : List (List ℕ × List ℕ)). text_by_key l (codes "tls.crt")) (sym parts) ∙ filled_certificate file made [] k.parts in
      no_pair_lacked file made k pair.0 (secret_pair k file made key certificate ∙ pair.1) pair.1 lacks,
)

-- so a stand-in that is written changes the Secret
pub changes_stand_in : (seen : Views) (role : Role) (now : ℤ) (plan : TemporaryPlan) → is_run_time now ≡ true → IsLacking seen plan → IsTemporaryPlan role seen now plan → ChangesSeen seen plan.secret
changes_stand_in seen role now plan run l is =
    subst (ChangesSeen seen) (sym l.planned)
    (changes_target seen l.certificate is.certificate is.request l.file is.file l.made role now seen.secret refl run l.lacks
    (subst (OnSeen (WritesTarget role now (IsMarked is.certificate is.request is.file now)) seen) l.planned is.secret))

-- The measure falls at each write of the key manager.
use Rattle.std.proofs.Common.{◌≡◌, ◌+◌, ◌≤◌, ◌<◌, ℕ, ℤ, List, [], ◌∷◌, length, Bool, true, false, not, Option, Some, None, refl, sym, ap, ◌∙◌, arith}
use Rattle.std.specs.Prelude.{if◌then◌else◌, is_some, ◌&&◌}
use Rattle.std.proofs.lemmas.Slice.Eq.{bytes_eq-Decides}
use Rattle.cmc_objects.specs.declared.certificate.Certificate.{Certificate}
use Rattle.cmc_objects.specs.declared.certificate.CertStatus.{CertStatus}
use Rattle.cmc_objects.specs.declared.request.CertificateRequest.{CertificateRequest}
use Rattle.cmc_objects.specs.declared.secret.Secret.{Secret}
use Rattle.cmc_match.specs.Facts.{key_in}
use Rattle.cmc_pass.specs.declared.pass.Views.{Views}
use Rattle.cmc_pass.specs.declared.pass.Desk.{Desk}
use Rattle.cmc_pass.specs.declared.pass.Act.{Act}
use Rattle.cmc_pass.specs.declared.pass.Act.TheVariants.{Nothing}
use Rattle.cmc_rules.specs.NextKeys.{is_named, named_key, has_fitting_key, is_fitting}
use Rattle.cmc_match.specs.Revisions.{next_request}
use Rattle.cmc_rules.specs.Chains.{trigger_reason}
use Rattle.cmc_rules.specs.Trigger.{trigger, is_issuing, is_waiting_since, is_in_back_off, is_outrun, frame_of}
use Rattle.cmc_rules.specs.Readiness.{readiness}
use Rattle.cmc_rules.specs.Issuance.{issuing, with_key_of, with_file}
use Rattle.cmc_run_laws.specs.Issuances.{certificate_restated, with_certificate}
use Rattle.cmc_load_laws.specs.Measure.{weight, acts, key_part, has_fresh, has_fresh_for, is_target_written, under_way, measure, with_next}
use Rattle.cmc_load_laws.proofs.Parts.{weight_within, while_issued, while_not, SaysSame, ready_kept, trigger_acts, trigger_beside}

-- ---- before a fitting key is named nothing else can be done

nothing_by : (b : Bool) (a : Act) → a ≡ Nothing → (if b then a else Nothing) ≡ Nothing
nothing_by true a is = is
nothing_by false a is = refl

-- the Secret has no key that fits, or there is none
abbrev IsUnfit : Certificate → Option Secret → Type 0
IsUnfit c None = Unit {0}
IsUnfit c (Some k) = has_fitting_key c.spec.key k ≡ false

unfit_file : (now : ℤ) (c : Certificate) (target : Option Secret) (requests : List CertificateRequest) (file : Option (List ℕ)) → is_fitting c.spec.key file ≡ false
    → (with_file now c target requests file ≡ Nothing) × (has_fresh c requests file ≡ false)
unfit_file now c target requests None is = (refl, refl)
unfit_file now c target requests (Some file) is = (rw is refl, rw is refl)

unfit : (now : ℤ) (c : Certificate) (target : Option Secret) (requests : List CertificateRequest) (k : Option Secret) → IsUnfit c k
    → (with_key_of now c target requests k ≡ Nothing) × (has_fresh_for c requests k ≡ false)
unfit now c target requests None is = (refl, refl)
unfit now c target requests (Some k) is = unfit_file now c target requests (key_in k) is

way_open : (now : ℤ) (seen : Views) (c : Certificate) → seen.certificate ≡ Some c → IsUnfit c (named_key c.status.next_key seen.next) → under_way now seen c ≡ 9 + key_part c seen.next
unfolding issuing
way_open now seen c sees is =
    let both = unfit now c seen.secret seen.requests (named_key c.status.next_key seen.next) is in
    let waits : issuing seen now ≡ Nothing = rw sees (nothing_by (is_issuing c) _ both.0) in
    omega (arith, ap (λ (b : Bool). weight 4 (not b)) both.1, ap (λ (a : Act). weight 2 (not (is_target_written seen.secret a))) waits)

-- ---- while the Certificate is being issued

abbrev pub the_views : Views → Certificate → List Secret → Views
the_views seen c next = with_next next (with_certificate c seen)

issued_by : (desk : Desk) (due : ℕ) (now : ℤ) (seen : Views) (c later : Certificate) (next after : List Secret) → is_issuing c ≡ true → is_issuing later ≡ true
    → acts (readiness (the_views seen later after) now) ≡ acts (readiness (the_views seen c next) now)
    → length after + under_way now (the_views seen later after) later < length next + under_way now (the_views seen c next) c
    → measure desk due now (the_views seen later after) < measure desk due now (the_views seen c next)
issued_by desk due now seen c later next after on on_then ready less =
    omega (arith, while_issued now (the_views seen c next) c on, while_issued now (the_views seen later after) later on_then, ap (weight 1) ready, less)

ready_same : (now : ℤ) (seen : Views) (c : Certificate) (next after : List Secret) → acts (readiness (the_views seen c after) now) ≡ acts (readiness (the_views seen c next) now)
unfolding readiness
ready_same now seen c next after = refl

one_key : (c : Certificate) (k : Secret) → has_fitting_key c.spec.key k ≡ true → key_part c (k ∷ []) ≡ weight 1 (not (is_named c.status.next_key k))
one_key c k fit = rw fit refl

unfit_key : (c : Certificate) (k : Secret) → has_fitting_key c.spec.key k ≡ false → key_part c (k ∷ []) ≡ 3
unfit_key c k off = rw off refl

-- a key is made that fits
pub made_falls : (desk : Desk) (due : ℕ) (now : ℤ) (seen : Views) (c : Certificate) (k : Secret) → is_issuing c ≡ true → has_fitting_key c.spec.key k ≡ true
    → measure desk due now (the_views seen c (k ∷ [])) < measure desk due now (the_views seen c [])
made_falls desk due now seen c k on fit =
    let one : key_part c (k ∷ []) ≤ 1 = omega (arith, one_key c k fit, weight_within 1 (not (is_named c.status.next_key k))) in
    issued_by desk due now seen c c [] (k ∷ []) on on (ready_same now seen c [] (k ∷ []))
    (omega (
      arith,
      way_open now (the_views seen c []) c refl tt,
      one,
      weight_within 4 (not (has_fresh_for c seen.requests (named_key c.status.next_key (k ∷ [])))),
      weight_within 2 (not (is_target_written seen.secret (issuing (the_views seen c (k ∷ [])) now))),
    ))

-- the status names it
abbrev pub named_status : Option (List ℕ) → CertStatus → CertStatus
named_status name status = record status { next_key = name }

own_name : (k : Secret) → is_named (Some k.meta.name) k ≡ true
own_name k = (bytes_eq-Decides k.meta.name k.meta.name).1 refl

says_named : (name : Option (List ℕ)) (status : CertStatus) → SaysSame status (named_status name status)
says_named name status = record { ready = refl; revision = refl; begins = refl; ends = refl; renews = refl }

none_named : (c : Certificate) (k : Secret) → is_named c.status.next_key k ≡ false → named_key c.status.next_key (k ∷ []) ≡ None
none_named c k off = rw off refl

nothing_named : (c : Certificate) (k : Secret) → is_named c.status.next_key k ≡ false → IsUnfit c (named_key c.status.next_key (k ∷ []))
nothing_named c k off = rw (none_named c k off) tt

pub named_falls : (desk : Desk) (due : ℕ) (now : ℤ) (seen : Views) (c : Certificate) (k : Secret) (version : ℕ) → is_issuing c ≡ true → has_fitting_key c.spec.key k ≡ true → is_named c.status.next_key k ≡ false
    → measure desk due now (the_views seen (certificate_restated version (named_status (Some k.meta.name) c.status) c) (k ∷ [])) < measure desk due now (the_views seen c (k ∷ []))
named_falls desk due now seen c k version on fit off =
    let later : Certificate = certificate_restated version (named_status (Some k.meta.name) c.status) c in
    issued_by desk due now seen c later (k ∷ []) (k ∷ []) on on (ready_kept now (with_next (k ∷ []) seen) version c (named_status (Some k.meta.name) c.status) (says_named (Some k.meta.name) c.status))
    (omega (
      arith,
      way_open now (the_views seen c (k ∷ [])) c refl (nothing_named c k off),
      one_key c k fit,
      ap (λ (b : Bool). weight 1 (not b)) off,
      one_key later k fit,
      ap (λ (b : Bool). weight 1 (not b)) (own_name k),
      weight_within 4 (not (has_fresh_for later seen.requests (named_key later.status.next_key (k ∷ [])))),
      weight_within 2 (not (is_target_written seen.secret (issuing (the_views seen later (k ∷ [])) now))),
    ))

-- the only key goes, as it does not fit
only_by : (b : Bool) (c : Certificate) (k : Secret) → has_fitting_key c.spec.key k ≡ false → IsUnfit c (if b then Some k else None)
only_by true c k off = off
only_by false c k off = tt

pub dropped_falls : (desk : Desk) (due : ℕ) (now : ℤ) (seen : Views) (c : Certificate) (k : Secret) → is_issuing c ≡ true → has_fitting_key c.spec.key k ≡ false
    → measure desk due now (the_views seen c []) < measure desk due now (the_views seen c (k ∷ []))
dropped_falls desk due now seen c k on off =
    issued_by desk due now seen c c (k ∷ []) [] on on (ready_same now seen c (k ∷ []) [])
    (omega (arith, way_open now (the_views seen c []) c refl tt, way_open now (the_views seen c (k ∷ [])) c refl (only_by (is_named c.status.next_key k) c k off), unfit_key c k off))

-- ---- while it is not

idle_by : (desk : Desk) (due : ℕ) (now : ℤ) (seen : Views) (c later : Certificate) (next after : List Secret) → is_issuing c ≡ false → is_issuing later ≡ false
    → acts (readiness (the_views seen later after) now) ≡ acts (readiness (the_views seen c next) now) → acts (trigger (the_views seen later after) now) ≡ acts (trigger (the_views seen c next) now)
    → length after + weight 1 (is_some later.status.next_key) < length next + weight 1 (is_some c.status.next_key)
    → measure desk due now (the_views seen later after) < measure desk due now (the_views seen c next)
idle_by desk due now seen c later next after off off_then ready asks less =
    omega (arith, while_not now (the_views seen c next) c off, while_not now (the_views seen later after) later off_then, ap (weight 1) ready, ap (weight 13) asks, less)

-- the back-off takes the whole status, so that it does not compute alike before it is known whether it failed
waiting_same : (last : Option ℤ) (name : Option (List ℕ)) (status : CertStatus) (now : ℤ) → is_waiting_since last (named_status name status) now ≡ is_waiting_since last status now
waiting_same None name status now = refl
waiting_same (Some at) name status now = refl

held_same : (now : ℤ) (version : ℕ) (name : Option (List ℕ)) (c : Certificate) (requests : List CertificateRequest) → is_in_back_off now requests (certificate_restated version (named_status name c.status) c) ≡ is_in_back_off now requests c
held_same now version name c requests = ap (λ (b : Bool). b && not (is_outrun c.spec (next_request c.status.revision requests))) (waiting_same c.status.last_failure name c.status now)

-- fewer keys are left
pub idle_dropped_falls : (desk : Desk) (due : ℕ) (now : ℤ) (seen : Views) (c : Certificate) (next after : List Secret) → is_issuing c ≡ false → length after < length next
    → measure desk due now (the_views seen c after) < measure desk due now (the_views seen c next)
idle_dropped_falls desk due now seen c next after off less =
    idle_by desk due now seen c c next after off off (ready_same now seen c next after)
    (ap acts (trigger_beside now (with_certificate c seen) after ∙ sym (trigger_beside now (with_certificate c seen) next))) (omega (arith, less))

pub unnamed_falls : (desk : Desk) (due : ℕ) (now : ℤ) (seen : Views) (c : Certificate) (version : ℕ) (name : List ℕ) → is_issuing c ≡ false → c.status.next_key ≡ Some name
    → measure desk due now (the_views seen (certificate_restated version (named_status None c.status) c) []) < measure desk due now (the_views seen c [])
unnamed_falls desk due now seen c version name off named =
    let later : Certificate = certificate_restated version (named_status None c.status) c in
    idle_by desk due now seen c later [] [] off off (ready_kept now (with_next [] seen) version c (named_status None c.status) (says_named None c.status))
    (trigger_acts now (with_next [] seen) later ∙ ap (λ (b : Bool). not (is_issuing c) && (is_some (trigger_reason (frame_of now c) c seen.secret seen.requests) && not b)) (held_same now version None c seen.requests)
    ∙ sym (trigger_acts now (with_next [] seen) c)) (omega (arith, ap (λ (o : Option (List ℕ)). weight 1 (is_some o)) named))

-- In a run of a load no issuance fails.
use Rattle.std.proofs.Common.{◌≡◌, ◌≤◌, ◌+◌, ◌&&◌, ℕ, ℤ, List, length, Bool, true, false, not, Option, Some, None, refl, sym, ap, ◌∙◌}
use Rattle.std.proofs.lemmas.Bool.{and_parts}
use Rattle.std.specs.Prelude.{◌==◌, codes, filter, find, nat_le, unwrap_or, if◌then◌else◌}
use Rattle.cmc_objects.specs.declared.certificate.Certificate.{Certificate}
use Rattle.cmc_objects.specs.declared.request.CertificateRequest.{CertificateRequest}
use Rattle.cmc_objects.specs.declared.secret.Secret.{Secret as SecretObject}
use Rattle.cmc_objects.specs.declared.object.Object.TheVariants.{Request}
use Rattle.cmc_objects.specs.declared.entry.Entry.{Entry}
use Rattle.cmc_objects.specs.Requests.{is_denied}
use Rattle.cmc_answers.specs.Temporary.{temporary}
use Rattle.cmc_match.specs.Marks.{asks_for_temporary}
use Rattle.cmc_match.specs.Matches.{has_key, matches}
use Rattle.cmc_match.specs.Revisions.{is_of_revision, only_of}
use Rattle.cmc_pass.specs.declared.pass.Act.{Act}
use Rattle.cmc_pass.specs.declared.pass.Act.TheVariants.{Nothing, Issue, Temporary}
use Rattle.cmc_pass.specs.declared.pass.IssuePlan.{IssuePlan}
use Rattle.cmc_pass.specs.declared.pass.Views.{Views}
use Rattle.cmc_model.specs.declared.write.Write.{Write}
use Rattle.cmc_model.specs.Histories.{Setting}
use Rattle.cmc_model.specs.Writes.{writes}
use Rattle.cmc_rules.specs.declared.progress.OpenPass.{OpenPass}
use Rattle.cmc_rules.specs.Issuance.{failure, fails_now, is_certified, is_granted, is_kept_for_keys, issue_plan, issuing, lacks_certificate, refusal, temporary_plan, temporary_with, while_waiting, with_wanted}
use Rattle.cmc_rules.specs.NextRequests.{is_refused, is_wanted}
use Rattle.cmc_rules.specs.SeenObjects.{IsAmong}
use Rattle.cmc_rules.proofs.Sighted.{AreKnown}
use Rattle.cmc_rules.proofs.Sights.{found_among, seen_owned}
use Rattle.cmc_run_laws.specs.Issuances.{with_certificate}
use Rattle.cmc_run_laws.proofs.Going.{IsGoing, acts, going, going_is}
use Rattle.cmc_safety.specs.Formed.{IsFormed}
use Rattle.cmc_safety.proofs.Carried.{EachVersion, seen_has}
use Rattle.cmc_safety.proofs.Course.{AreSound}
use Rattle.cmc_safety.proofs.InProgress.{IsPlayed}
use Rattle.cmc_load_laws.specs.Loads.{IsLoad}
use Rattle.cmc_load_laws.proofs.AnsweredRequests.{IsAnswered, IsAnsweredObject, granted_issued, not_refused}
use Rattle.cmc_load_laws.proofs.AnsweredVersions.{each_answered}
use Rattle.cmc_load_laws.proofs.FailedWrites.{fresh_next, not_live, write_of}
use Rattle.cmc_load_laws.proofs.GoodRequests.{IsGoodObject, IsGoodRequest}
use Rattle.cmc_load_laws.proofs.GoodVersions.{each_good}
use Rattle.cmc_load_laws.proofs.ReadCertificates.{certified}
use Rattle.cmc_load_laws.proofs.StatusWrites.{NeverFails}

-- the one request of a revision is one of the requests
chosen_among : (b : Bool) (f : CertificateRequest → Bool) (rs : List CertificateRequest) (r : CertificateRequest) → (if b then find f rs else None) ≡ Some r → IsAmong r rs
chosen_among true f rs r is = found_among f rs r is
chosen_among false f rs r is = absurd (cc is)

pub only_among : (n : ℕ) (rs : List CertificateRequest) (r : CertificateRequest) → only_of n rs ≡ Some r → IsAmong r rs
unfolding only_of
only_among n rs r is = chosen_among (length (filter (λ request. is_of_revision n request) rs) == 1) (λ request. is_of_revision n request) rs r is

-- ---- the one next request

failure_acts : (now : ℤ) (reason : List ℕ) (c : Certificate) (a : Act) → a ≡ failure now reason c → acts a ≡ true
unfolding failure
failure_acts now reason c a is = ap acts is

no_stand_in : (b : Bool) (now : ℤ) (reason : List ℕ) (c : Certificate) (file : List ℕ) (target : Option SecretObject) (made : Option (List ℕ)) → (if b then temporary_with c file target made else Nothing) ≡ failure now reason c → ⊥
unfolding failure
no_stand_in false now reason c file target made is = absurd (cc is)
no_stand_in true now reason c file target None is = absurd (cc is)
no_stand_in true now reason c file target (Some certificate) is = by (nat_le (length certificate) 16777216) is where
  by : (b : Bool) → (if b then Temporary (temporary_plan c file certificate target) else Nothing) ≡ failure now reason c → ⊥
  by true e = absurd (cc e)
  by false e = absurd (cc e)

no_failure_by : (refused fails granted certified kept : Bool) (now : ℤ) (reason : List ℕ) (c : Certificate) (refuses invalid waits : Act) (plan : IssuePlan) → refused ≡ false → (granted ≡ true → certified ≡ true) → (waits ≡ failure now reason c → ⊥)
    → (if refused then (if fails then refuses else Nothing) else (if granted then (if certified then (if kept then Nothing else Issue plan) else invalid) else waits)) ≡ failure now reason c → ⊥
unfolding failure
no_failure_by true fails granted certified kept now reason c refuses invalid waits plan off on none is = absurd (cc off)
no_failure_by false fails true true true now reason c refuses invalid waits plan off on none is = absurd (cc is)
no_failure_by false fails true true false now reason c refuses invalid waits plan off on none is = absurd (cc is)
no_failure_by false fails true false kept now reason c refuses invalid waits plan off on none is = absurd (let e : false ≡ true = on refl in cc e)
no_failure_by false fails false certified kept now reason c refuses invalid waits plan off on none is = none is

wanted_holds : (now : ℤ) (reason : List ℕ) (c : Certificate) (file : List ℕ) (target : Option SecretObject) (r : CertificateRequest) → IsGoodRequest r → IsAnswered r → is_wanted c file r ≡ true → with_wanted now c file target r ≡ failure now reason c → ⊥
wanted_holds now reason c file target r good answered wanted is =
    no_failure_by (is_refused r) (fails_now c r r.status.failure) (is_granted r) (is_certified file r.status.certificate) (is_kept_for_keys target) now reason c (failure now (refusal r) c) (failure now (codes "InvalidCertificate") c) (while_waiting now c file target r)
    (issue_plan now c file r target) (not_refused r answered)
    (λ granted. let i = granted_issued r answered granted in certified i.at r file good i.signed (and_parts (matches c.spec r) (has_key r file) wanted).1)
    (no_stand_in (asks_for_temporary c && (not (is_denied r) && (not (is_kept_for_keys target) && lacks_certificate file target))) now reason c file target (temporary r.spec.request file now)) is

none_fails : (ws : List Write) (seen : Views) (now : ℤ) (reason : List ℕ) (c : Certificate) → EachVersion IsGoodObject ws → EachVersion IsAnsweredObject ws → AreKnown ws seen → seen.certificate ≡ Some c → issuing seen now ≡ failure now reason c → ⊥
none_fails ws seen now reason c good answered known sees fails =
    let same : with_certificate c seen ≡ seen = ap (λ (o : Option Certificate). record seen { certificate = o }) (sym sees) in
    let there : issuing (with_certificate c seen) now ≡ failure now reason c = ap (λ (v : Views). issuing v now) same ∙ fails in
    let on = going now seen c (failure_acts now reason c (issuing (with_certificate c seen) now) there) in
    let g : IsGoing c seen.next seen.requests = on.1 in
    let among : IsAmong g.request seen.requests = only_among (unwrap_or c.status.revision 0 + 1) seen.requests g.request g.stands in
    wanted_holds now reason c g.file seen.secret g.request (seen_has IsGoodObject ws seen (Request g.request) good known (seen_owned seen g.request among))
    (seen_has IsAnsweredObject ws seen (Request g.request) answered known (seen_owned seen g.request among)) g.wanted (sym (going_is now seen c g on.0) ∙ there)

pub never_fails : AreSound → (s : Setting) (h : List Entry) → IsFormed s → IsLoad s → length h ≤ s.events → IsPlayed s h → NeverFails s h
never_fails sound s h formed load short o n call reply a issuing fresh =
    let p : OpenPass = a.caller.pass in
    let w = write_of p.since p.seen p.seen.certificate call refl (fresh_next s h n call reply a issuing fresh) (λ key live. not_live s h call reply key a.founded live) in
    none_fails (writes s h) p.seen p.since w.so.0 w.certificate (each_good sound s h load o) (each_answered sound s h formed load short o) a.caller.saw.known w.sees w.so.2

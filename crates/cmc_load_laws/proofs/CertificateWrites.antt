-- What there is to see where the status of a Certificate is written.
use Rattle.std.proofs.Common.{◌≡◌, ◌+◌, ℕ, List, false, Option, Some, refl, sym, ap, subst, ◌∙◌}
use Rattle.std.specs.BTreeMap.{is_at}
use Rattle.std.specs.Prelude.{option_and_then}
use Rattle.cmc_meta.specs.declared.key.Key.{Key}
use Rattle.cmc_meta.specs.Keys.{key_cmp}
use Rattle.cmc_objects.specs.declared.certificate.Certificate.{Certificate}
use Rattle.cmc_objects.specs.declared.certificate.CertStatus.{CertStatus}
use Rattle.cmc_objects.specs.declared.object.Object.{Object}
use Rattle.cmc_objects.specs.declared.object.Object.TheVariants.{Cert}
use Rattle.cmc_objects.specs.declared.call.Call.{Call}
use Rattle.cmc_objects.specs.declared.call.Call.TheVariants.{UpdateStatus}
use Rattle.cmc_objects.specs.declared.call.Reply.{Reply}
use Rattle.cmc_objects.specs.declared.entry.Entry.{Entry}
use Rattle.cmc_objects.specs.Objects.{key_of, numbered}
use Rattle.cmc_pass.specs.declared.pass.Views.{Views}
use Rattle.cmc_model.specs.Acceptance.{IsFounded}
use Rattle.cmc_model.specs.Objects.{Objects, object_at}
use Rattle.cmc_model.specs.Replies.{from_old, key_of_call, put_at, settled, stored}
use Rattle.cmc_model.specs.Stored.{restated, with_status}
use Rattle.cmc_model.specs.Histories.{Setting, moment, objects, accepted}
use Rattle.cmc_model.specs.Writes.{writes}
use Rattle.cmc_rules.specs.Legality.{IsLegal}
use Rattle.cmc_rules.specs.Views.{certificate_in, next_in, owned_in, views_in, views_of}
use Rattle.cmc_rules.proofs.Sighted.{AreKnown, stands_as_seen}
use Rattle.cmc_rules.proofs.Sights.{seen_certificate}
use Rattle.cmc_run_laws.specs.Issuances.{certificate_restated, with_certificate}
use Rattle.cmc_load_laws.specs.Frame.{IsSameOwner, key_of_target, seen_of}
use Rattle.cmc_load_laws.proofs.Belonging.{itself, not_true}
use Rattle.cmc_load_laws.proofs.LoadHistories.{put_there}
use Rattle.cmc_load_laws.proofs.OneWrite.{one_write, only_certificate}
use Rattle.cmc_load_laws.proofs.Totals.{one_key}

-- ---- the call

abbrev pub status_call : Certificate → CertStatus → Call
status_call c status = UpdateStatus (Cert (record c { status = status })) c.meta.version

-- the Certificate was there as it is seen, and is so afterwards
pub record IsRestated (s : Setting) (h : List Entry) (call : Call) (reply : Reply) (c : Certificate) (status : CertStatus) : Type 0 where
  pub key : key_of_call (settled call reply) ≡ key_of (Cert c)
  pub was : object_at (objects s h) (key_of (Cert c)) ≡ Some (Cert c)
  pub is : stored (accepted s h + 1) (moment s h) (objects s h) (settled call reply) ≡ Some (Cert (certificate_restated (accepted s h + 1) status c))

restated_as : (v : ℕ) (c : Certificate) (status : CertStatus) → restated v (Cert c) (Cert (record c { status = status })) ≡ Cert (certificate_restated v status c)
unfolding numbered with_status
restated_as v c status = refl

restated_by : (s : Setting) (h : List Entry) (seen : Views) (reply : Reply) (c : Certificate) (status : CertStatus) → IsLegal s h → AreKnown (writes s h) seen → seen.certificate ≡ Some c
    → IsFounded (objects s h) (settled (status_call c status) reply) → IsRestated s h (status_call c status) reply c status
unfolding settled IsFounded
restated_by s h seen reply c status legal known sees on =
    let same : Cert c ≡ on.0 = stands_as_seen s h seen (key_of (Cert c)) c.meta.version (Cert c) on.0 legal known (seen_certificate seen c sees) refl on.1 on.2.version in
    let was : object_at (objects s h) (key_of (Cert c)) ≡ Some (Cert c) = on.1 ∙ ap Some (sym same) in
    record {
      key = refl;
      was = was;
      is = ap (from_old (λ (o : Object). restated (accepted s h + 1) o (Cert (record c { status = status })))) was ∙ ap Some (restated_as (accepted s h + 1) c status);
    }

pub is_restated : (s : Setting) (h : List Entry) (seen : Views) (call : Call) (reply : Reply) (c : Certificate) (status : CertStatus) → IsLegal s h → AreKnown (writes s h) seen → seen.certificate ≡ Some c
    → IsFounded (objects s h) (settled call reply) → call ≡ status_call c status → IsRestated s h call reply c status
is_restated s h seen call reply c status legal known sees on is =
    subst (λ (x : Call). IsRestated s h x reply c status) (sym is) (restated_by s h seen reply c status legal known sees (subst (λ (x : Call). IsFounded (objects s h) (settled x reply)) is on))

-- ---- what there is to see

pub seen_with : (m : Objects) (c : Certificate) → object_at m (key_of (Cert c)) ≡ Some (Cert c) → seen_of m (key_of (Cert c)) ≡ with_certificate c (seen_of m (key_of (Cert c)))
unfolding views_in views_of
seen_with m c was =
    ap (λ (o : Option Certificate). record (seen_of m (key_of (Cert c))) { certificate = o }) (ap (option_and_then certificate_in) was)

no_target : (c : Certificate) → is_at (key_cmp (key_of_target c)) (key_of (Cert c)) ≡ false
no_target c = not_true (is_at (key_cmp (key_of_target c)) (key_of (Cert c))) (λ on.
    absurd (let kind = ap (λ (k : Key). k.kind) (one_key (key_of_target c) (key_of (Cert c)) on) in cc kind))

pub seen_after : (m : Objects) (c d : Certificate) → object_at m (key_of (Cert c)) ≡ Some (Cert c) → IsSameOwner c d
    → seen_of (put_at m (key_of (Cert c)) (Some (Cert d))) (key_of (Cert c)) ≡ with_certificate d (seen_of m (key_of (Cert c)))
seen_after m c d was same =
    let own : Key = key_of (Cert c) in
    let new : Option Object = Some (Cert d) in
    only_certificate own c own (object_at m own) new (seen_of m own) (seen_of (put_at m own new) own)
    (one_write m own own new c d (ap (option_and_then certificate_in) was) (ap (option_and_then certificate_in) (put_there m own new)) same) d (itself own) (no_target c)
    (ap (option_and_then (next_in c)) was, ap (option_and_then (owned_in c)) was) refl

-- What the writes of roles are like in a run of a load.
use Rattle.std.specs.Prelude.{◌≡◌, ◌≢◌, ◌<◌, ◌≤◌, length, filter, unwrap_or, ℕ, ℤ, true, false, List, [], ◌∷◌, Some}
use Rattle.std.specs.BTreeMap.{is_at}
use Rattle.std.specs.List.{list_any}
use Rattle.cmc_meta.specs.declared.key.Key.{Key}
use Rattle.cmc_meta.specs.Keys.{key_cmp}
use Rattle.cmc_objects.specs.declared.certificate.Certificate.{Certificate}
use Rattle.cmc_objects.specs.declared.request.CertificateRequest.{CertificateRequest}
use Rattle.cmc_objects.specs.declared.object.Object.TheVariants.{Cert, Request}
use Rattle.cmc_objects.specs.declared.call.Call.{Call}
use Rattle.cmc_objects.specs.declared.call.Call.TheVariants.{Create}
use Rattle.cmc_objects.specs.declared.call.Reply.{Reply}
use Rattle.cmc_objects.specs.declared.entry.Entry.{Entry}
use Rattle.cmc_objects.specs.declared.entry.Entry.TheVariants.{Call as Called}
use Rattle.cmc_objects.specs.declared.entry.Who.TheVariants.{Pass}
use Rattle.cmc_objects.specs.declared.role.Role.{Role}
use Rattle.cmc_objects.specs.declared.role.Role.TheVariants.{Trigger, KeyManager, RequestManager, Approver, Issuer, Issuing, Readiness, Revision}
use Rattle.cmc_objects.specs.Objects.{key_of}
use Rattle.cmc_pass.specs.declared.pass.Desk.{Desk}
use Rattle.cmc_pass.specs.declared.pass.Views.{Views}
use Rattle.cmc_pass.specs.declared.value.Value.TheVariants.{Answered}
use Rattle.cmc_objects.specs.declared.orders.Signing.TheVariants.{Issued}
use Rattle.cmc_match.specs.Revisions.{is_of_revision}
use Rattle.cmc_model.specs.Objects.{Objects, object_at}
use Rattle.cmc_model.specs.Replies.{is_accepted, key_of_call, settled}
use Rattle.cmc_model.specs.Histories.{Setting, moment, objects}
use Rattle.cmc_model.specs.Versions.{HasVersion}
use Rattle.cmc_rules.specs.NextRequests.{is_next, next_requests}
use Rattle.cmc_rules.specs.Passes.{open_pass, writes_temporary}
use Rattle.cmc_rules.specs.RevisionManager.{counts, oldest_of}
use Rattle.cmc_rules.specs.Views.{certificate_at, present_views}
use Rattle.cmc_rules.specs.declared.progress.OpenPass.{OpenPass}
use Rattle.cmc_rules.specs.declared.progress.Stage.{Stage}
use Rattle.cmc_rules.specs.declared.progress.Stage.TheVariants.{Given, Read, Saved}
use Rattle.cmc_run_laws.specs.Lengths.{Each}
use Rattle.cmc_load_laws.specs.Measure.{measure}
use Rattle.cmc_load_laws.specs.Frame.{IsSameOwner, seen_of}
use Rattle.cmc_load_laws.specs.Totals.{HasCertificate, total_measure}
use Rattle.cmc_load_laws.specs.Belonging.{IsWriteFor}

-- a later version of the Certificate exists under its key, and names and owns the same
pub record IsStanding (m : Objects) (c : Certificate) : Type 0 where
  pub present : Certificate
  pub at : certificate_at m (key_of (Cert c)) ≡ Some present
  pub same : IsSameOwner c present

-- each Certificate that was ever written exists
abbrev pub KeepsCertificates : Setting → List Entry → Type 0
KeepsCertificates s h = (key : Key) (c : Certificate) → HasVersion s h key (Cert c) → IsStanding (objects s h) c

-- where the measure of the Certificate falls, that of all falls which exist
abbrev pub FallsWithOne : Key → Objects → Objects → Type 0
FallsWithOne own m n =
    (desk : Desk) (due : ℕ) (now : ℤ) (keys : List Key) → Each (HasCertificate m) keys → list_any (is_at (key_cmp own)) keys ≡ true
    → measure desk due now (seen_of n own) < measure desk due now (seen_of m own) → total_measure desk due now keys n < total_measure desk due now keys m

-- The entry, which calls, writes for one Certificate. What there is to see of each other stays as it was, whoever looks.
pub record IsForOneCertificate (s : Setting) (h : List Entry) (e : Entry) (call : Call) (reply : Reply) : Type 0 where
  pub own : Key
  pub write : IsWriteFor own (key_of_call (settled call reply)) (objects s h) (object_at (objects s (e ∷ h)) (key_of_call (settled call reply))) (objects s (e ∷ h))
  pub others : (role : Role) (other : Key) → HasCertificate (objects s h) other → other ≢ own → present_views s (e ∷ h) role other ≡ present_views s h role other
  pub falls : FallsWithOne own (objects s h) (objects s (e ∷ h))

-- each accepted write of a role is so
abbrev pub WriteForOneCertificate : Setting → List Entry → Type 0
WriteForOneCertificate s [] = Unit {0}
WriteForOneCertificate s (Called (Pass n) call reply ∷ h) = (is_accepted reply ≡ true → IsForOneCertificate s h (Called (Pass n) call reply) call reply) × WriteForOneCertificate s h
WriteForOneCertificate s (e ∷ h) = WriteForOneCertificate s h

-- ---- writes on what there is to see

-- the pass sees what there is to see, at the moment of its begin
pub record SeesAll (s : Setting) (h : List Entry) (p : OpenPass) : Type 0 where
  pub sees : p.seen ≡ present_views s h p.role p.key
  pub now : p.since ≡ moment s h

-- The entry lowers the measure of one Certificate, and leaves that of each other: so it lowers the measure of all. The approver's rules are
-- those of the scenario, and what the rows left give that is due at once is as before.
pub record LowersMeasure (s : Setting) (h : List Entry) (e : Entry) : Type 0 where
  pub own : Key
  pub exists : HasCertificate (objects s h) own
  pub lowers : (desk : Desk) (due : ℕ) → desk.rules ≡ s.rules → measure desk due (moment s h) (seen_of (objects s (e ∷ h)) own) < measure desk due (moment s h) (seen_of (objects s h) own)
  pub leaves : (desk : Desk) (due : ℕ) (other : Key) → HasCertificate (objects s h) other → other ≢ own
      → measure desk due (moment s h) (seen_of (objects s (e ∷ h)) other) ≡ measure desk due (moment s h) (seen_of (objects s h) other)
  pub all : (desk : Desk) (due : ℕ) (keys : List Key) → desk.rules ≡ s.rules → Each (HasCertificate (objects s h)) keys → list_any (is_at (key_cmp own)) keys ≡ true
      → total_measure desk due (moment s h) keys (objects s (e ∷ h)) < total_measure desk due (moment s h) keys (objects s h)

-- the issuer has answered with a certificate
abbrev pub HasIssued : Stage → Type 0
HasIssued (Given order (Answered (Issued certificate ca))) = Unit {0}
HasIssued other = ⊥

-- the Certificate has one request of the next revision at most
abbrev pub HasFewRequests : Views → Type 0
HasFewRequests seen = (c : Certificate) → seen.certificate ≡ Some c → length (next_requests c seen.requests) ≤ 1

-- the oldest request that counts is neither of the revision that the Certificate has nor of the next
abbrev pub HasOldRequest : Views → Type 0
HasOldRequest seen =
    (c : Certificate) (r : CertificateRequest) → seen.certificate ≡ Some c → oldest_of (filter counts seen.requests) ≡ Some r → (is_of_revision (unwrap_or c.status.revision 0) r ≡ false) × (is_next c r ≡ false)

-- a certification request that is made has at most the octets that are read again
abbrev pub IsSmallRequest : Call → Type 0
IsSmallRequest (Create (Request made) generate) = length made.spec.request ≤ 16777216
IsSmallRequest other = Unit {0}

-- issuing writes the Secret, with what the issuer issued and not with a stand-in
abbrev pub WritesIssued : Stage → Call → Type 0
WritesIssued Read call = writes_temporary call ≡ false
WritesIssued other call = ⊥

-- Of which writes it is known: all of trigger, approver and readiness; those of the key manager while there is one next key at most; those
-- of the request manager while there is one next request at most; of the issuer's controller where the issuer has issued; of issuing
-- the Secret, but no stand-in; of the revision manager where what goes is of an earlier revision.
abbrev pub IsLowering : Role → Views → Stage → Call → Type 0
IsLowering Trigger seen stage call = Unit {0}
IsLowering KeyManager seen stage call = length seen.next ≤ 1
IsLowering RequestManager seen stage call = HasFewRequests seen × IsSmallRequest call
IsLowering Approver seen stage call = Unit {0}
IsLowering Issuer seen stage call = HasIssued stage
IsLowering Issuing seen stage call = WritesIssued stage call
IsLowering Readiness seen stage call = Unit {0}
IsLowering Revision seen stage call = HasOldRequest seen

-- each accepted write by such a pass, on what there is to see, lowers the measure
abbrev pub CurrentWritesLower : Setting → List Entry → Type 0
CurrentWritesLower s [] = Unit {0}
CurrentWritesLower s (Called (Pass n) call reply ∷ h) =
    (is_accepted reply ≡ true → (p : OpenPass) → open_pass s h n ≡ Some p → SeesAll s h p → IsLowering p.role p.seen p.stage call → LowersMeasure s h (Called (Pass n) call reply)) × CurrentWritesLower s h
CurrentWritesLower s (e ∷ h) = CurrentWritesLower s h

-- ---- writes in a plain run of a load

-- Of which writes it is known there, whichever roles run: all but the status by which issuing ends an issuance with success.
abbrev pub IsPlainLowering : Role → Views → Stage → Call → Type 0
IsPlainLowering Issuing seen Saved call = ⊥
IsPlainLowering role seen stage call = Unit {0}

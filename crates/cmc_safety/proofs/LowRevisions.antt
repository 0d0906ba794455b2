-- In a run the revision of each version is at most the number of accepted writes, and so there is a next one.
use Rattle.std.proofs.Common.{◌≡◌, ◌⊎◌, ℕ, ◌+◌, ◌≤◌, ◌<◌, ◌^◌, List, [], ◌∷◌, length, Option, Some, None, Bool, true, false, refl, ap, inl, inr, arith}
use Rattle.std.specs.Prelude.{if◌then◌else◌, IfSome, unwrap_or}
use Rattle.cmc_objects.specs.declared.certificate.Certificate.{Certificate}
use Rattle.cmc_objects.specs.declared.object.Object.{Object}
use Rattle.cmc_objects.specs.declared.object.Object.TheVariants.{Cert}
use Rattle.cmc_objects.specs.declared.entry.Entry.{Entry}
use Rattle.cmc_objects.specs.declared.entry.Entry.TheVariants.{Call as Called}
use Rattle.cmc_pass.specs.declared.pass.Views.{Views}
use Rattle.cmc_model.specs.declared.write.Write.{Write}
use Rattle.cmc_model.specs.Objects.{object_at}
use Rattle.cmc_model.specs.Replies.{is_accepted, key_of_call, settled}
use Rattle.cmc_model.specs.Histories.{Setting, moment, state, objects}
use Rattle.cmc_model.specs.Writes.{writes, write_of}
use Rattle.cmc_rules.specs.NextRequests.{HasNextRevision}
use Rattle.cmc_rules.specs.Revisions.{stated_revision, KeepsRevision, RaisesRevision}
use Rattle.cmc_rules.proofs.Sights.{seen_certificate}
use Rattle.cmc_rules.proofs.Sighted.{AreKnown}
use Rattle.cmc_safety.specs.Formed.{IsFormed}
use Rattle.cmc_safety.proofs.Course.{AreSound}
use Rattle.cmc_safety.proofs.InProgress.{IsPlayed}
use Rattle.cmc_safety.proofs.Users.{users_keep}
use Rattle.cmc_safety.proofs.Carried.{EachVersion, no_version, one_more, standing_has, seen_has, newest, IsCarried, carried}

-- the revision that the object states is at most n
abbrev pub IsLow : ℕ → Object → Type 0
IsLow n o = unwrap_or (stated_revision o) 0 ≤ n

-- a write keeps the revision of what stood, or raises it by one
low_new : (n m : ℕ) (old new : Option Object) → n + 1 ≤ m → KeepsRevision old new ⊎ RaisesRevision old new → IfSome old (IsLow n) → IfSome new (IsLow m)
low_new n m old None more change low = tt
low_new n m None (Some o) more (inl keeps) low = omega (arith, ap (λ (x : Option ℕ). unwrap_or x 0) keeps)
low_new n m None (Some o) more (inr raises) low = omega (arith, more, ap (λ (x : Option ℕ). unwrap_or x 0) raises)
low_new n m (Some p) (Some o) more (inl keeps) low = omega (arith, more, low, ap (λ (x : Option ℕ). unwrap_or x 0) keeps)
low_new n m (Some p) (Some o) more (inr raises) low = omega (arith, more, low, ap (λ (x : Option ℕ). unwrap_or x 0) raises)

abbrev pub AreLow : List Write → Type 0
AreLow ws = EachVersion (IsLow (length ws)) ws

low_more : (w : Write) (ws : List Write) (old : Option Object) → KeepsRevision old w.object ⊎ RaisesRevision old w.object → IfSome old (IsLow (length ws)) → AreLow ws → AreLow (w ∷ ws)
low_more w ws old change low each =
    one_more (IsLow (length (w ∷ ws))) w ws (low_new (length ws) (length (w ∷ ws)) old w.object (omega arith) change low) (λ key o has. omega (arith, each key o has))

low_carried : (s : Setting) → IsCarried s AreLow
low_carried s = record {
  none = no_version (IsLow 0);
  user = λ h call reply o right owes ok each.
      low_more (newest s h call reply) (writes s h) (object_at (objects s h) (key_of_call (settled call reply))) (inl (users_keep s h call reply o.legal owes right ok))
      (standing_has (IsLow (length (writes s h))) s h (key_of_call (settled call reply)) each) each;
  pass = λ h call reply o p each.
      low_more (newest s h call reply) (writes s h) (object_at (objects s h) (key_of_call (settled call reply))) p.write.revision
      (standing_has (IsLow (length (writes s h))) s h (key_of_call (settled call reply)) each) each;
}

pub revisions_low : AreSound → (s : Setting) (h : List Entry) → IsFormed s → IsPlayed s h → AreLow (writes s h)
revisions_low sound s h formed o = carried sound AreLow s formed (low_carried s) h o

-- ---- and there are no more accepted writes than entries

short_more : (b : Bool) (w : Write) (ws : List Write) (n : ℕ) → length ws ≤ n → length (if b then w ∷ ws else ws) ≤ n + 1
short_more true w ws n short = omega (arith, short)
short_more false w ws n short = omega (arith, short)

pub writes_short : (s : Setting) (h : List Entry) → length (writes s h) ≤ length h
writes_short s [] = omega arith
writes_short s (Called who call reply ∷ h) =
    omega (arith, short_more (is_accepted reply) (write_of (moment s h) (state s h) (settled call reply)) (writes s h) (length h) (writes_short s h))
writes_short s (other ∷ h) = omega (arith, writes_short s h)

-- ---- what is seen

next_part : (x : Option Certificate) (n : ℕ) → n < 2 ^ 63 → ((c : Certificate) → x ≡ Some c → IsLow n (Cert c)) → HasNextRevision x
next_part None n small low = tt
next_part (Some c) n small low = omega (arith, small, low c refl)

-- a Certificate of so few writes has a next revision
pub next_seen : (ws : List Write) (seen : Views) → length ws < 2 ^ 63 → AreLow ws → AreKnown ws seen → HasNextRevision seen.certificate
next_seen ws seen small low known =
    next_part seen.certificate (length ws) small (λ c is. seen_has (IsLow (length ws)) ws seen (Cert c) low known (seen_certificate seen c is))

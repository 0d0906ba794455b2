-- In a run of a load each accepted write of a role is for one Certificate, and leaves what there is to see of the others.
use Rattle.std.proofs.Common.{◌≡◌, ◌≢◌, ◌+◌, ℕ, List, [], ◌∷◌, Bool, true, false, cond, Option, Some, None, refl, sym, ap, subst, ◌∙◌, inr}
use Rattle.std.specs.BTreeMap.{is_at}
use Rattle.std.specs.Prelude.{IfSome, if◌then◌else◌}
use Rattle.cmc_meta.specs.declared.key.Key.{Key}
use Rattle.cmc_meta.specs.Keys.{key_cmp}
use Rattle.cmc_objects.specs.declared.certificate.Certificate.{Certificate}
use Rattle.cmc_objects.specs.declared.object.Object.{Object}
use Rattle.cmc_objects.specs.declared.object.Object.TheVariants.{Cert}
use Rattle.cmc_objects.specs.declared.call.Call.{Call}
use Rattle.cmc_objects.specs.declared.call.Reply.{Reply}
use Rattle.cmc_objects.specs.declared.entry.Entry.{Entry}
use Rattle.cmc_objects.specs.declared.entry.Entry.TheVariants.{Call as Called}
use Rattle.cmc_objects.specs.declared.entry.Who.{Who}
use Rattle.cmc_objects.specs.declared.entry.Who.TheVariants.{User, Pass}
use Rattle.cmc_objects.specs.declared.role.Role.{Role}
use Rattle.cmc_model.specs.declared.write.Write.{Write}
use Rattle.cmc_model.specs.Objects.{Objects, object_at}
use Rattle.cmc_model.specs.Replies.{is_accepted, key_of_call, put_at, settled, stored}
use Rattle.cmc_model.specs.Histories.{Setting, moment, objects, accepted}
use Rattle.cmc_model.specs.Versions.{IsVersion}
use Rattle.cmc_model.specs.Writes.{writes}
use Rattle.cmc_model.proofs.Versions.{object_at-put}
use Rattle.cmc_rules.specs.Runs.{IsRun}
use Rattle.cmc_rules.specs.Views.{views_in}
use Rattle.cmc_rules.proofs.Versions.{stands_is_version, version_keyed}
use Rattle.cmc_safety.proofs.Carried.{newest}
use Rattle.cmc_safety.proofs.Course.{AreSound}
use Rattle.cmc_safety.proofs.InProgress.{IsPlayed, played_below}
use Rattle.cmc_load_laws.specs.Belonging.{IsParted, IsWriteFor}
use Rattle.cmc_load_laws.specs.Loads.{HasFreeCertificates}
use Rattle.cmc_load_laws.specs.LoadRuns.{FallsWithOne, IsForOneCertificate, KeepsCertificates, WriteForOneCertificate}
use Rattle.cmc_load_laws.specs.Frame.{all_of}
use Rattle.cmc_load_laws.specs.Totals.{HasCertificate}
use Rattle.cmc_load_laws.proofs.Belonging.{is_elsewhere, itself}
use Rattle.cmc_load_laws.proofs.BelongingVersions.{EachIsOf, IsCertificateIn, IsOf}
use Rattle.cmc_load_laws.proofs.Elsewhere.{others_see_same}
use Rattle.cmc_load_laws.proofs.LoadFalls.{load_falls}
use Rattle.cmc_load_laws.proofs.LoadStores.{at_key, is_parted}
use Rattle.cmc_load_laws.proofs.LoadVersions.{each_is_of, is_standing, of_pass}
use Rattle.cmc_load_laws.proofs.PassRights.{IsAcceptedBy, accepted_by}
use Rattle.cmc_load_laws.proofs.Totals.{one_key}
use Rattle.cmc_load_laws.proofs.WritesForOne.{IsForOne, for_one, some_stored}

-- ---- an accepted call

-- what it leaves, and the writes with it
pub after_accepted : (s : Setting) (h : List Entry) (who : Who) (call : Call) (reply : Reply) → is_accepted reply ≡ true
    → objects s (Called who call reply ∷ h) ≡ put_at (objects s h) (key_of_call (settled call reply)) (stored (accepted s h + 1) (moment s h) (objects s h) (settled call reply))
after_accepted s h who call reply ok =
    ap (λ (b : Bool). if b then put_at (objects s h) (key_of_call (settled call reply)) (stored (accepted s h + 1) (moment s h) (objects s h) (settled call reply)) else objects s h) ok

pub known_after : (b : Bool) (w : Write) (ws : List Write) (c : Certificate) → IsCertificateIn ws c → IsCertificateIn (if b then w ∷ ws else ws) c
known_after true w ws c known = inr known
known_after false w ws c known = known

pub put_there : (m : Objects) (key : Key) (new : Option Object) → object_at (put_at m key new) key ≡ new
put_there m key new = object_at-put m key new key ∙ ap (λ (b : Bool). cond b new (object_at m key)) (itself key)

-- what exists under the key belongs to a Certificate
standing_of : (s : Setting) (h : List Entry) (key : Key) (o : Option Object) → EachIsOf s (writes s h) → object_at (objects s h) key ≡ o → IfSome o (IsOf s (writes s h))
standing_of s h key None each is = tt
standing_of s h key (Some o) each is = at_key s h key o each is

for_one_by : AreSound → (s : Setting) (h : List Entry) (n : ℕ) (call : Call) (reply : Reply) → HasFreeCertificates s → IsPlayed s (Called (Pass n) call reply ∷ h) → is_accepted reply ≡ true
    → IsForOne (key_of_call (settled call reply)) (objects s h) (object_at (objects s h) (key_of_call (settled call reply)))
    (stored (accepted s h + 1) (moment s h) (objects s h) (settled call reply)) (objects s (Called (Pass n) call reply ∷ h))
for_one_by sound s h n call reply load o ok =
    let e : Entry = Called (Pass n) call reply in
    let key : Key = key_of_call (settled call reply) in
    let m : Objects = objects s h in
    let new : Option Object = stored (accepted s h + 1) (moment s h) m (settled call reply) in
    let under = played_below s e h o in
    let a = accepted_by sound s h n call reply o ok in
    let each = each_is_of sound s h load under in
    let each_after = each_is_of sound s (e ∷ h) load o in
    let there : object_at (objects s (e ∷ h)) key ≡ new = ap (λ (x : Objects). object_at x key) (after_accepted s h (Pass n) call reply ok) ∙ put_there m key new in
    for_one s (writes s h) a.caller.pass.role key m (objects s (e ∷ h)) (λ c known. is_standing sound s h load under each c known)
    (λ c known. is_standing sound s (e ∷ h) load o each_after c (known_after (is_accepted reply) (newest s h call reply) (writes s h) c known)) (object_at m key) new refl there
    (standing_of s h key (object_at m key) each refl) (of_pass s h n call reply each a) (λ x is. sym (version_keyed s h key x under.legal (stands_is_version s h key x is)))
    (λ x is. sym (version_keyed s (e ∷ h) key x o.legal (stands_is_version s (e ∷ h) key x (there ∙ is)))) (λ none gone. some_stored (accepted s h + 1) (moment s h) m (settled call reply) a.founded none gone) a.write.rights

pub parted_at : AreSound → (s : Setting) (h : List Entry) → HasFreeCertificates s → IsPlayed s h → IsParted (objects s h)
parted_at sound s h load o = is_parted s h load o.legal (each_is_of sound s h load o)

none_here : (s : Setting) (h : List Entry) (n : ℕ) (call : Call) (reply : Reply) → IsAcceptedBy s h n call reply → object_at (objects s h) (key_of_call (settled call reply)) ≡ None
    → stored (accepted s h + 1) (moment s h) (objects s h) (settled call reply) ≡ None → ⊥
none_here s h n call reply a none gone = some_stored (accepted s h + 1) (moment s h) (objects s h) (settled call reply) a.founded none gone

apart : (b : Bool) (other own : Key) → is_at (key_cmp other) own ≡ b → other ≢ own → is_at (key_cmp other) own ≡ false
apart true other own is off = absurd (off (one_key other own is))
apart false other own is off = is

-- what the write is for, in the words of one store that another follows
pub record IsForOneIn (m : Objects) (key : Key) (new : Option Object) : Type 0 where
  pub own : Key
  pub write : IsWriteFor own key m new (put_at m key new)
  pub parted : IsParted m
  pub later : IsParted (put_at m key new)

pub for_one_in : AreSound → (s : Setting) (h : List Entry) (n : ℕ) (call : Call) (reply : Reply) → HasFreeCertificates s → IsPlayed s (Called (Pass n) call reply ∷ h) → is_accepted reply ≡ true
    → IsForOneIn (objects s h) (key_of_call (settled call reply)) (stored (accepted s h + 1) (moment s h) (objects s h) (settled call reply))
for_one_in sound s h n call reply load o ok =
    let e : Entry = Called (Pass n) call reply in
    let key : Key = key_of_call (settled call reply) in
    let m : Objects = objects s h in
    let new : Option Object = stored (accepted s h + 1) (moment s h) m (settled call reply) in
    let same : objects s (e ∷ h) ≡ put_at m key new = after_accepted s h (Pass n) call reply ok in
    let one = subst (λ (x : Objects). IsForOne key m (object_at m key) new x) same (for_one_by sound s h n call reply load o ok) in
    record {
      own = one.own;
      write = record {
        before = one.write.before;
        after = one.write.after;
        was = one.write.was;
        is = one.write.is;
        finds = one.write.finds;
        leaves = one.write.leaves;
        writes = λ none gone. none_here s h n call reply (accepted_by sound s h n call reply o ok) none gone;
      };
      parted = parted_at sound s h load (played_below s e h o);
      later = subst IsParted same (parted_at sound s (e ∷ h) load o);
    }

-- ---- the frame

module _ (m : Objects) (key : Key) (new : Option Object) (one : IsForOneIn m key new) where
  pub others_by : (role : Role) (other : Key) → HasCertificate m other → other ≢ one.own → views_in role (all_of (put_at m key new)) other ≡ views_in role (all_of m) other
  others_by role other has off =
      others_see_same role m key new other
      (is_elsewhere one.own key other m new one.parted one.later one.write has.0 has.1 (apart (is_at (key_cmp other) one.own) other one.own refl off))

  pub falls_by : FallsWithOne one.own m (put_at m key new)
  falls_by desk due now keys are among falls = load_falls desk due now keys m one.own key new are among one.parted one.later one.write falls

record IsForOneThen (m n : Objects) (key : Key) : Type 0 where
  own : Key
  write : IsWriteFor own key m (object_at n key) n
  others : (role : Role) (other : Key) → HasCertificate m other → other ≢ own → views_in role (all_of n) other ≡ views_in role (all_of m) other
  falls : FallsWithOne own m n

for_one_then : (m : Objects) (key : Key) (new : Option Object) → IsForOneIn m key new → IsForOneThen m (put_at m key new) key
for_one_then m key new one = record {
  own = one.own;
  write = subst (λ (x : Option Object). IsWriteFor one.own key m x (put_at m key new)) (sym (put_there m key new)) one.write;
  others = others_by m key new one;
  falls = falls_by m key new one;
}

for_certificate : AreSound → (s : Setting) (h : List Entry) (n : ℕ) (call : Call) (reply : Reply) → HasFreeCertificates s → IsPlayed s (Called (Pass n) call reply ∷ h) → is_accepted reply ≡ true
    → IsForOneCertificate s h (Called (Pass n) call reply) call reply
for_certificate sound s h n call reply load o ok =
    let key : Key = key_of_call (settled call reply) in
    let new : Option Object = stored (accepted s h + 1) (moment s h) (objects s h) (settled call reply) in
    let then_so = subst (λ (x : Objects). IsForOneThen (objects s h) x key) (sym (after_accepted s h (Pass n) call reply ok)) (for_one_then (objects s h) key new (for_one_in sound s h n call reply load o ok)) in
    record { own = then_so.own; write = then_so.write; others = then_so.others; falls = then_so.falls }

-- ---- histories

pub write_for_one : AreSound → (s : Setting) (h : List Entry) → HasFreeCertificates s → IsPlayed s h → WriteForOneCertificate s h
write_for_one sound s [] load o = tt
write_for_one sound s (Called (Pass n) call reply ∷ h) load o =
    (λ ok. for_certificate sound s h n call reply load o ok, write_for_one sound s h load (played_below s (Called (Pass n) call reply) h o))
write_for_one sound s (Called User call reply ∷ h) load o = write_for_one sound s h load (played_below s (Called User call reply) h o)
write_for_one sound s (other ∷ h) load o = write_for_one sound s h load (played_below s other h o)

pub played : (s : Setting) (h : List Entry) → IsRun s h → IsPlayed s h
played s h run = record { legal = run.legal; caused = run.caused; follows = run.follows }

pub runs_write_for_one : AreSound → (s : Setting) (h : List Entry) → HasFreeCertificates s → IsRun s h → WriteForOneCertificate s h
runs_write_for_one sound s h load run = write_for_one sound s h load (played s h run)

pub runs_are_parted : AreSound → (s : Setting) (h : List Entry) → HasFreeCertificates s → IsRun s h → IsParted (objects s h)
runs_are_parted sound s h load run = parted_at sound s h load (played s h run)

pub runs_keep_certificates : AreSound → (s : Setting) (h : List Entry) → HasFreeCertificates s → IsRun s h → KeepsCertificates s h
runs_keep_certificates sound s h load run key c has =
    let o = played s h run in
    let own : IsCertificateIn (writes s h) c = subst (λ (k : Key). IsVersion k (Cert c) (writes s h)) (sym (version_keyed s h key (Cert c) run.legal has)) has in
    is_standing sound s h load o (each_is_of sound s h load o) c own

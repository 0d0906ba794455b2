-- In a plain run of a load each pass that finds nothing to do sees something that a write left.
use Rattle.std.proofs.Common.{◌≡◌, ◌⊎◌, ℕ, ◌+◌, ◌*◌, ◌≤◌, List, [], ◌∷◌, length, Bool, true, false, Option, Some, None, refl, sym, ap, subst, ◌∙◌, inl, inr, arith}
use Rattle.std.specs.FinMap.{get-empty}
use Rattle.std.specs.Prelude.{◌&&◌, option_map, if◌then◌else◌}
use Rattle.cmc_meta.specs.declared.key.Key.{Key}
use Rattle.cmc_meta.specs.declared.key.Kind.{Kind}
use Rattle.cmc_meta.specs.Keys.{key_cmp}
use Rattle.cmc_objects.specs.declared.object.Object.{Object}
use Rattle.cmc_objects.specs.declared.call.Call.{Call}
use Rattle.cmc_objects.specs.declared.call.Reply.{Reply}
use Rattle.cmc_objects.specs.declared.entry.Cause.{Cause}
use Rattle.cmc_objects.specs.declared.entry.Who.{Who}
use Rattle.cmc_objects.specs.declared.entry.Who.TheVariants.{User, Pass}
use Rattle.cmc_objects.specs.declared.entry.Entry.{Entry}
use Rattle.cmc_objects.specs.declared.entry.Entry.TheVariants.{Call as Called, Begin, End, Stop, Start}
use Rattle.cmc_objects.specs.declared.role.Role.{Role}
use Rattle.cmc_objects.specs.Informers.{kind_of_work}
use Rattle.cmc_model.specs.Histories.{Setting, accepted, moment, objects}
use Rattle.cmc_model.specs.Objects.{Objects, no_objects, object_at}
use Rattle.cmc_model.specs.Replies.{is_accepted, key_of_call, put_at, settled, stored}
use Rattle.cmc_rules.specs.declared.progress.Ending.{Ending}
use Rattle.cmc_rules.specs.declared.progress.LastPass.{LastPass}
use Rattle.cmc_rules.specs.declared.progress.Past.{Past}
use Rattle.cmc_rules.specs.Acts.{act}
use Rattle.cmc_rules.specs.Desks.{desk}
use Rattle.cmc_rules.specs.Memory.{ending_of, past, with_ending, with_own}
use Rattle.cmc_rules.specs.Passes.{is_pass_of, open_pass}
use Rattle.cmc_rules.specs.Views.{views, views_in}
use Rattle.cmc_moves.specs.Quiet.{seen_last}
use Rattle.cmc_moves.proofs.Sounds.{each_sound}
use Rattle.cmc_safety.proofs.InProgress.{IsPlayed, played_below}
use Rattle.cmc_load_laws.specs.Belonging.{IsParted}
use Rattle.cmc_load_laws.specs.Frame.{all_of}
use Rattle.cmc_load_laws.specs.Loads.{HasFreeCertificates}
use Rattle.cmc_load_laws.specs.LoadRuns.{IsForOneCertificate, WriteForOneCertificate}
use Rattle.cmc_load_laws.specs.Measure.{acts}
use Rattle.cmc_load_laws.proofs.Elsewhere.{elsewhere_at}
use Rattle.cmc_load_laws.proofs.LoadHistories.{after_accepted, parted_at, put_there, write_for_one}
use Rattle.cmc_run_laws.specs.Begins.{count_of}
use Rattle.cmc_load_ends.specs.LoadLengths.{is_role_write, is_user_write}
use Rattle.cmc_load_ends.proofs.BegunWaits.{AreWaiting, SawAll, begin_waits, idle_begins, most_places, none_to_see}
use Rattle.cmc_load_ends.proofs.PlainEntries.{writes_certificate, ArePlain, IsApply}
use Rattle.cmc_load_ends.proofs.Touched.{IsTouchedOr, Place, applied_or, among_certificates, is_among, still_among, touched, touched_or, with_certificate}

-- ---- a call

own_last : (b : Bool) (kind : Kind) (version : ℕ) (p : Past) → (if b then with_own kind version p else p).last ≡ p.last
own_last true kind version p = refl
own_last false kind version p = refl

last_called : (s : Setting) (h : List Entry) (who : Who) (call : Call) (reply : Reply) (role : Role) (key : Key) → (past s (Called who call reply ∷ h) role key).last ≡ (past s h role key).last
last_called s h User call reply role key = refl
last_called s h (Pass n) call reply role key = own_last (is_accepted reply && is_pass_of role key (open_pass s h n)) (key_of_call call).kind (accepted s h + 1) (past s h role key)

-- what a call that is not accepted leaves
refused_waits : (s : Setting) (h : List Entry) (who : Who) (call : Call) (reply : Reply) → is_accepted reply ≡ false → most_places (Called who call reply ∷ h) ≡ most_places h → AreWaiting s h → AreWaiting s (Called who call reply ∷ h)
refused_waits s h who call reply off most w = record {
  places = w.places;
  few = let low = w.few in omega (arith, most, low);
  each = λ role key kind. by role key (w.each role key kind);
} where
  same_objects : objects s (Called who call reply ∷ h) ≡ objects s h
  same_objects = ap (λ (b : Bool). if b then put_at (objects s h) (key_of_call (settled call reply)) (stored (accepted s h + 1) (moment s h) (objects s h) (settled call reply)) else objects s h) off

  by : (role : Role) (key : Key) → (is_among role key w.places ≡ true) ⊎ SawAll s h role key → (is_among role key w.places ≡ true) ⊎ SawAll s (Called who call reply ∷ h) role key
  by role key (inl there) = inl there
  by role key (inr saw) = inr (ap seen_last (last_called s h who call reply role key) ∙ saw ∙ ap (λ (m : Objects). views_in role (all_of m) key) (sym same_objects))

-- and what one that is accepted leaves, which touches the new places
accepted_waits : (s : Setting) (h : List Entry) (who : Who) (call : Call) (reply : Reply) (ps : List Place) (w : AreWaiting s h) → idle_begins s h + length ps ≤ most_places (Called who call reply ∷ h)
    → ((role : Role) (key : Key) → is_among role key w.places ≡ true → is_among role key ps ≡ true)
    → ((role : Role) (key : Key) → key.kind ≡ kind_of_work role → IsTouchedOr ps (objects s h) (objects s (Called who call reply ∷ h)) role key) → AreWaiting s (Called who call reply ∷ h)
accepted_waits s h who call reply ps w low stay touches = record {
  places = ps;
  few = low;
  each = λ role key kind. by role key (touches role key kind) (w.each role key kind);
} where
  by : (role : Role) (key : Key) → IsTouchedOr ps (objects s h) (objects s (Called who call reply ∷ h)) role key → (is_among role key w.places ≡ true) ⊎ SawAll s h role key
      → (is_among role key ps ≡ true) ⊎ SawAll s (Called who call reply ∷ h) role key
  by role key (inl there) was = inl there
  by role key (inr same) (inl there) = inl (stay role key there)
  by role key (inr same) (inr saw) = inr (ap seen_last (last_called s h who call reply role key) ∙ saw ∙ sym same)

one_counted : (b : Bool) (n : ℕ) → b ≡ true → (if b then n + 1 else n) ≡ n + 1
one_counted true n is = refl
one_counted false n is = absurd (cc is)

none_counted : (b : Bool) (n : ℕ) → b ≡ false → (if b then n + 1 else n) ≡ n
none_counted true n is = absurd (cc is)
none_counted false n is = refl

pass_places : (i n r u r_after : ℕ) → i + n ≤ 8 * r + 6 * u → r_after ≡ r + 1 → i + (8 + n) ≤ 8 * r_after + 6 * u
pass_places i n r u r_after low is = omega (arith, low, is)

user_places : (i n r u u_after : ℕ) → i + n ≤ 8 * r + 6 * u → u_after ≡ u + 1 → i + (6 + n) ≤ 8 * r + 6 * u_after
user_places i n r u u_after low is = omega (arith, low, is)

same_most : (r u a b : ℕ) → a ≡ r → b ≡ u → 8 * a + 6 * b ≡ 8 * r + 6 * u
same_most r u a b one other = omega (arith, one, other)

pass_waits : (s : Setting) (h : List Entry) (n : ℕ) (call : Call) (reply : Reply) → is_accepted reply ≡ true → IsParted (objects s (Called (Pass n) call reply ∷ h)) → IsForOneCertificate s h (Called (Pass n) call reply) call reply
    → AreWaiting s h → AreWaiting s (Called (Pass n) call reply ∷ h)
pass_waits s h n call reply ok later one w =
    let under : Key = key_of_call (settled call reply) in
    let new : Option Object = stored (accepted s h + 1) (moment s h) (objects s h) (settled call reply) in
    let low = pass_places (idle_begins s h) (length w.places) (count_of is_role_write h) (count_of is_user_write h) (if is_accepted reply then count_of is_role_write h + 1 else count_of is_role_write h) w.few
    (one_counted (is_accepted reply) (count_of is_role_write h) ok) in
    accepted_waits s h (Pass n) call reply (touched one.own under w.places) w (omega (arith, low)) (λ role key there. still_among role key one.own under w.places there)
    (touched_or (objects s h) (objects s (Called (Pass n) call reply ∷ h)) one.own under w.places later one.write
    (λ q off. ap (λ (m : Objects). object_at m q) (after_accepted s h (Pass n) call reply ok) ∙ elsewhere_at (objects s h) under new q off) one.others)

user_waits : (s : Setting) (h : List Entry) (call : Call) (reply : Reply) → is_accepted reply ≡ true → IsParted (objects s h) → IsParted (objects s (Called User call reply ∷ h)) → IsApply s h call → AreWaiting s h
    → AreWaiting s (Called User call reply ∷ h)
user_waits s h call reply ok parted later apply w =
    let under : Key = key_of_call (settled call reply) in
    let new : Option Object = stored (accepted s h + 1) (moment s h) (objects s h) (settled call reply) in
    let same : objects s (Called User call reply ∷ h) ≡ put_at (objects s h) under new = after_accepted s h User call reply ok in
    let low = user_places (idle_begins s h) (length w.places) (count_of is_role_write h) (count_of is_user_write h) (if is_accepted reply then count_of is_user_write h + 1 else count_of is_user_write h) w.few
    (one_counted (is_accepted reply) (count_of is_user_write h) ok) in
    accepted_waits s h User call reply (with_certificate under w.places) w (omega (arith, low)) (λ role key there. among_certificates role key under w.places there)
    (λ role key kind.
    subst (λ (m : Objects). IsTouchedOr (with_certificate under w.places) (objects s h) m role key) (sym same)
    (applied_or (objects s h) under new w.places parted (subst IsParted same later) (put_there (objects s h) under new) (writes_certificate s h call reply apply) role key kind))

-- ---- an end

last_ended : (b : Bool) (ending : Ending) (p : Past) → seen_last (if b then with_ending ending p else p).last ≡ seen_last p.last
last_ended false ending p = refl
last_ended true ending p = by p.last where
  by : (l : Option LastPass) → seen_last (option_map (λ (x : LastPass). record x { ending = ending }) l) ≡ seen_last l
  by None = refl
  by (Some l) = refl

end_waits : (s : Setting) (h : List Entry) (n : ℕ) (cause : Cause) → AreWaiting s h → AreWaiting s (End n cause ∷ h)
end_waits s h n cause w = record { places = w.places; few = w.few; each = λ role key kind. by role key (w.each role key kind) } where
  by : (role : Role) (key : Key) → (is_among role key w.places ≡ true) ⊎ SawAll s h role key → (is_among role key w.places ≡ true) ⊎ SawAll s (End n cause ∷ h) role key
  by role key (inl there) = inl there
  by role key (inr saw) = inr (last_ended (is_pass_of role key (open_pass s h n)) (ending_of (open_pass s h n)) (past s h role key) ∙ saw)

-- ---- histories

pass_by : (b : Bool) (s : Setting) (h : List Entry) (n : ℕ) (call : Call) (reply : Reply) → is_accepted reply ≡ b → IsParted (objects s (Called (Pass n) call reply ∷ h))
    → (is_accepted reply ≡ true → IsForOneCertificate s h (Called (Pass n) call reply) call reply) → AreWaiting s h → AreWaiting s (Called (Pass n) call reply ∷ h)
pass_by true s h n call reply ok later one w = pass_waits s h n call reply ok later (one ok) w
pass_by false s h n call reply off later one w =
    refused_waits s h (Pass n) call reply off
    (same_most (count_of is_role_write h) (count_of is_user_write h) (if is_accepted reply then count_of is_role_write h + 1 else count_of is_role_write h) (count_of is_user_write h) (none_counted (is_accepted reply) (count_of is_role_write h) off) refl) w

user_by : (b : Bool) (s : Setting) (h : List Entry) (call : Call) (reply : Reply) → is_accepted reply ≡ b → IsParted (objects s h) → IsParted (objects s (Called User call reply ∷ h)) → IsApply s h call → AreWaiting s h
    → AreWaiting s (Called User call reply ∷ h)
user_by true s h call reply ok parted later apply w = user_waits s h call reply ok parted later apply w
user_by false s h call reply off parted later apply w =
    refused_waits s h User call reply off
    (same_most (count_of is_role_write h) (count_of is_user_write h) (count_of is_role_write h) (if is_accepted reply then count_of is_user_write h + 1 else count_of is_user_write h) refl (none_counted (is_accepted reply) (count_of is_user_write h) off)) w

waits : (s : Setting) (h : List Entry) → HasFreeCertificates s → IsPlayed s h → WriteForOneCertificate s h → ArePlain s h → AreWaiting s h
waits s [] free o one plain = record { places = []; few = omega arith; each = λ role key kind. inr (none_to_see role no_objects key (get-empty key_cmp key)) }
waits s (Called (Pass n) call reply ∷ h) free o one plain =
    let e : Entry = Called (Pass n) call reply in
    pass_by (is_accepted reply) s h n call reply refl (parted_at each_sound s (e ∷ h) free o) one.0 (waits s h free (played_below s e h o) one.1 plain.1)
waits s (Called User call reply ∷ h) free o one plain =
    let e : Entry = Called User call reply in
    let below = played_below s e h o in
    user_by (is_accepted reply) s h call reply refl (parted_at each_sound s h free below) (parted_at each_sound s (e ∷ h) free o) plain.0.1 (waits s h free below one plain.1)
waits s (Begin n r k at now ∷ h) free o one plain =
    begin_waits (acts (act r (views s h r k) (moment s h) (desk s h r (views s h r k)))) s h n r k at now refl plain.0.1 plain.0.2 (waits s h free (played_below s (Begin n r k at now) h o) one plain.1)
waits s (End n cause ∷ h) free o one plain = end_waits s h n cause (waits s h free (played_below s (End n cause) h o) one plain.1)
waits s (Stop role ∷ h) free o one plain = absurd plain.0
waits s (Start role at ∷ h) free o one plain = absurd plain.0
waits s (other ∷ h) free o one plain = let w = waits s h free (played_below s other h o) one plain.1 in record { places = w.places; few = w.few; each = w.each }

-- no more passes find nothing to do than writes have touched places
pub few_idle : (s : Setting) (h : List Entry) → HasFreeCertificates s → IsPlayed s h → ArePlain s h → idle_begins s h ≤ most_places h
few_idle s h free o plain = let w = waits s h free o (write_for_one each_sound s h free o) plain in let few = w.few in omega (arith, few)

-- A pass that finds nothing to do sees something new: on its place something was left to see.
use Rattle.std.proofs.Common.{◌≡◌, ◌⊎◌, ℕ, ℤ, ◌+◌, ◌*◌, ◌≤◌, List, [], ◌∷◌, length, Bool, true, false, None, refl, sym, ap, subst, ◌∙◌, inl, inr, arith}
use Rattle.std.proofs.lemmas.Bool.{and_parts, or_right}
use Rattle.std.specs.Prelude.{◌&&◌, ◌||◌, if◌then◌else◌}
use Rattle.cmc_meta.specs.declared.key.Key.{Key}
use Rattle.cmc_meta.specs.Keys.{key_eq}
use Rattle.cmc_objects.specs.declared.entry.Positions.{Positions}
use Rattle.cmc_objects.specs.declared.entry.Entry.{Entry}
use Rattle.cmc_objects.specs.declared.entry.Entry.TheVariants.{Begin}
use Rattle.cmc_objects.specs.declared.role.Role.{Role}
use Rattle.cmc_objects.specs.declared.role.Role.TheVariants.{Trigger, KeyManager, RequestManager, Approver, Issuer, Issuing, Readiness, Revision}
use Rattle.cmc_objects.specs.Informers.{kind_of_work}
use Rattle.cmc_pass.specs.declared.pass.Act.{Act}
use Rattle.cmc_pass.specs.declared.pass.Act.TheVariants.{Nothing, Call as Calls, Ask as Asks, Issue, Temporary}
use Rattle.cmc_pass.specs.declared.pass.Views.{Views}
use Rattle.cmc_model.specs.Histories.{Setting, moment, role_eq}
use Rattle.cmc_model.specs.Objects.{Objects, object_at}
use Rattle.cmc_rules.specs.declared.progress.Past.{Past}
use Rattle.cmc_rules.specs.Acts.{act}
use Rattle.cmc_rules.specs.Desks.{desk}
use Rattle.cmc_rules.specs.Memory.{past, with_begin}
use Rattle.cmc_rules.specs.Views.{present_views, views, views_in, views_of}
use Rattle.cmc_moves.specs.Quiet.{no_views, seen_last}
use Rattle.cmc_kernel.specs.Plain.{Fits}
use Rattle.cmc_kernel.proofs.RoleStates.{same_role}
use Rattle.cmc_kernel.proofs.SameKeys.{same_key}
use Rattle.cmc_load_laws.specs.Frame.{all_of}
use Rattle.cmc_load_laws.specs.Measure.{acts}
use Rattle.cmc_run_laws.specs.Begins.{count_of}
use Rattle.cmc_load_ends.specs.LoadLengths.{is_role_write, is_user_write}
use Rattle.cmc_load_ends.proofs.Touched.{Place, is_among, is_place}

-- how many passes begin that find nothing to do
abbrev pub idle_begins : Setting → List Entry → ℕ
idle_begins s [] = 0
idle_begins s (Begin n role key at now ∷ h) = if acts (act role (views s h role key) (moment s h) (desk s h role (views s h role key))) then idle_begins s h else idle_begins s h + 1
idle_begins s (other ∷ h) = idle_begins s h

-- as the last pass of the role on the key began, it saw what there is to see
abbrev pub SawAll : Setting → List Entry → Role → Key → Type 0
SawAll s h role key = seen_last (past s h role key).last ≡ present_views s h role key

-- a write of a role touches 8 places, and one of a user 6
abbrev pub most_places : List Entry → ℕ
most_places h = 8 * count_of is_role_write h + 6 * count_of is_user_write h

-- On each place a role saw all, but on so many places as writes have touched, less one for each pass that found nothing to do.
pub record AreWaiting (s : Setting) (h : List Entry) : Type 0 where
  pub places : List Place
  pub few : idle_begins s h + length places ≤ most_places h
  pub each : (role : Role) (key : Key) → key.kind ≡ kind_of_work role → (is_among role key places ≡ true) ⊎ SawAll s h role key

-- ---- the empty history

pub none_to_see : (role : Role) (m : Objects) (key : Key) → object_at m key ≡ None → no_views ≡ views_in role (all_of m) key
unfolding views_in views_of
none_to_see Trigger m key none = rw none refl
none_to_see KeyManager m key none = rw none refl
none_to_see RequestManager m key none = rw none refl
none_to_see Approver m key none = rw none refl
none_to_see Issuer m key none = rw none refl
none_to_see Issuing m key none = rw none refl
none_to_see Readiness m key none = rw none refl
none_to_see Revision m key none = rw none refl

-- ---- places without one

abbrev removed : Role → Key → List Place → List Place
removed role key [] = []
removed role key (p ∷ ps) = if is_place role key p then ps else p ∷ removed role key ps

one_less : (role : Role) (key : Key) (ps : List Place) → is_among role key ps ≡ true → length (removed role key ps) + 1 ≡ length ps
one_less role key [] is = absurd (cc is)
one_less role key (p ∷ ps) is = by (is_place role key p) is (one_less role key ps) where
  by : (b : Bool) → (b || is_among role key ps) ≡ true → (is_among role key ps ≡ true → length (removed role key ps) + 1 ≡ length ps) → length (if b then ps else p ∷ removed role key ps) + 1 ≡ length (p ∷ ps)
  by true there rest = omega arith
  by false there rest = let one = rest there in omega (arith, one)

-- a place of this role and key is none of another
not_both : (r role : Role) (k key : Key) (p : Place) → (role_eq r role && key_eq k key) ≡ false → is_place r k p ≡ true → is_place role key p ≡ false
not_both r role k key p other is =
    let both = and_parts (role_eq p.role r) (key_eq p.key k) is in
    ap (λ (x : Role). role_eq x role && key_eq p.key key) (same_role p.role r both.0) ∙ ap (λ (x : Key). role_eq r role && key_eq x key) (same_key p.key k both.1) ∙ other

others_stay : (r role : Role) (k key : Key) (ps : List Place) → (role_eq r role && key_eq k key) ≡ false → is_among role key ps ≡ true → is_among role key (removed r k ps) ≡ true
others_stay r role k key [] other is = is
others_stay r role k key (p ∷ ps) other is = by (is_place r k p) (is_place role key p) refl refl is (others_stay r role k key ps other) where
  by : (b c : Bool) → is_place r k p ≡ b → is_place role key p ≡ c → (c || is_among role key ps) ≡ true → (is_among role key ps ≡ true → is_among role key (removed r k ps) ≡ true)
      → is_among role key (if b then ps else p ∷ removed r k ps) ≡ true
  by true true gone here there rest = absurd (let off = not_both r role k key p other gone in cc (off, here))
  by true false gone here there rest = there
  by false true gone here there rest = ap (λ (b : Bool). b || is_among role key (removed r k ps)) here
  by false false gone here there rest = or_right (is_place role key p) (is_among role key (removed r k ps)) (rest there)

-- ---- a pass begins

idle_act : (a : Act) → acts a ≡ false → a ≡ Nothing
idle_act Nothing is = refl
idle_act (Calls call) is = absurd (cc is)
idle_act (Asks order) is = absurd (cc is)
idle_act (Issue plan) is = absurd (cc is)
idle_act (Temporary plan) is = absurd (cc is)

-- so the role sees something new
is_waiting : (s : Setting) (h : List Entry) (r : Role) (k : Key) (w : AreWaiting s h) → Fits s h r k → views s h r k ≡ present_views s h r k → acts (act r (views s h r k) (moment s h) (desk s h r (views s h r k))) ≡ false
    → is_among r k w.places ≡ true
is_waiting s h r k w fits sees idle = by (w.each r k fits.may.work) where
  by : (is_among r k w.places ≡ true) ⊎ SawAll s h r k → is_among r k w.places ≡ true
  by (inl there) = there
  by (inr saw) = absurd (fits.worth (record { idle = idle_act (act r (views s h r k) (moment s h) (desk s h r (views s h r k))) idle; same = sees ∙ sym saw }))

last_begun : (b : Bool) (seen : Views) (now : ℤ) (p : Past) → b ≡ true → seen_last (if b then with_begin seen now p else p).last ≡ seen
last_begun true seen now p is = refl
last_begun false seen now p is = absurd (cc is)

last_unbegun : (b : Bool) (seen : Views) (now : ℤ) (p : Past) → b ≡ false → (if b then with_begin seen now p else p).last ≡ p.last
last_unbegun true seen now p is = absurd (cc is)
last_unbegun false seen now p is = refl

-- what a begin on one place leaves of another
after_begin : (s : Setting) (h : List Entry) (n : ℕ) (r role : Role) (k key : Key) (at : Positions) (now : ℤ) (ps qs : List Place) → views s h r k ≡ present_views s h r k
    → ((role_eq r role && key_eq k key) ≡ false → is_among role key ps ≡ true → is_among role key qs ≡ true) → (is_among role key ps ≡ true) ⊎ SawAll s h role key
    → (is_among role key qs ≡ true) ⊎ SawAll s (Begin n r k at now ∷ h) role key
after_begin s h n r role k key at now ps qs sees stay was = by (role_eq r role && key_eq k key) refl was where
  by : (b : Bool) → (role_eq r role && key_eq k key) ≡ b → (is_among role key ps ≡ true) ⊎ SawAll s h role key → (is_among role key qs ≡ true) ⊎ SawAll s (Begin n r k at now ∷ h) role key
  by true is was =
      let both = and_parts (role_eq r role) (key_eq k key) is in
      inr (last_begun (role_eq r role && key_eq k key) (views s h r k) now (past s h role key) is ∙ sees
      ∙ ap (λ (x : Role). present_views s h x k) (same_role r role both.0) ∙ ap (present_views s h role) (same_key k key both.1))
  by false is (inl there) = inl (stay is there)
  by false is (inr saw) = inr (ap seen_last (last_unbegun (role_eq r role && key_eq k key) (views s h r k) now (past s h role key) is) ∙ saw)

begun_idle : (i n m most : ℕ) → i + n ≤ most → m + 1 ≡ n → (i + 1) + m ≤ most
begun_idle i n m most low less = omega (arith, low, less)

pub begin_waits : (b : Bool) (s : Setting) (h : List Entry) (n : ℕ) (r : Role) (k : Key) (at : Positions) (now : ℤ) → acts (act r (views s h r k) (moment s h) (desk s h r (views s h r k))) ≡ b → Fits s h r k
    → views s h r k ≡ present_views s h r k → AreWaiting s h → AreWaiting s (Begin n r k at now ∷ h)
begin_waits true s h n r k at now does fits sees w = record {
  places = w.places;
  few = subst (λ (b : Bool). (if b then idle_begins s h else idle_begins s h + 1) + length w.places ≤ most_places h) (sym does) w.few;
  each = λ role key kind. after_begin s h n r role k key at now w.places w.places sees (λ other there. there) (w.each role key kind);
}
begin_waits false s h n r k at now does fits sees w =
    let there = is_waiting s h r k w fits sees does in
    record {
      places = removed r k w.places;
      few = subst (λ (b : Bool). (if b then idle_begins s h else idle_begins s h + 1) + length (removed r k w.places) ≤ most_places h) (sym does)
          (begun_idle (idle_begins s h) (length w.places) (length (removed r k w.places)) (most_places h) w.few (one_less r k w.places there));
      each = λ role key kind. after_begin s h n r role k key at now w.places (removed r k w.places) sees (λ other among. others_stay r role k key w.places other among) (w.each role key kind);
    }

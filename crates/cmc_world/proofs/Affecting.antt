-- Of which keys a role that is told may see something new.
use Rattle.std.proofs.Common.{◌≡◌, ◌⊎◌, inl, inr, ℕ, ◌≤◌, ◌<◌, ◌+◌, ◌-◌, List, ◌∷◌, length, Bool, true, false, refl, sym, ap, subst, ◌∙◌, arith}
use Rattle.std.proofs.lemmas.Bool.Decides.{nat_tests}
use Rattle.std.specs.Prelude.{nat_le, if◌then◌else◌, IfOk, Result, Ok, Err}
use Rattle.cmc_meta.specs.declared.key.Key.{Key}
use Rattle.cmc_meta.specs.declared.key.Kind.{Kind}
use Rattle.cmc_meta.specs.declared.key.Kind.TheVariants as kinds
use Rattle.cmc_objects.specs.declared.role.Role.{Role}
use Rattle.cmc_objects.specs.declared.entry.Entry.{Entry}
use Rattle.cmc_objects.specs.declared.entry.Positions.{Positions}
use Rattle.cmc_objects.specs.declared.entry.Entry.TheVariants.{Deliver, List as Listed}
use Rattle.cmc_model.specs.declared.write.Write.{Write}
use Rattle.cmc_model.specs.Histories.{Setting, accepted, role_eq}
use Rattle.cmc_model.specs.Writes.{writes}
use Rattle.cmc_model.proofs.Writes.{writes_count}
use Rattle.cmc_objects.specs.Informers.{has_informer, kind_of_work}
use Rattle.cmc_rules.specs.Memory.{with_position}
use Rattle.cmc_rules.specs.Positions.{position, position_of, positions}
use Rattle.cmc_rules.specs.Views.{Caches, views, views_in}
use Rattle.cmc_rules.proofs.Positions.{write_at-low}
use Rattle.cmc_caches.specs.Affected.{is_among, AreNamed}
use Rattle.cmc_caches.specs.Affected as affected
use Rattle.cmc_caches.specs.Board.{objects_by}
use Rattle.cmc_caches.specs.Posted.{Posted, caches_of, told_of}
use Rattle.cmc_caches.specs.Told.{caches_at, with_cached}
use Rattle.cmc_caches.proofs.ViewsTold.{views-told}
use Rattle.cmc_moves.specs.Answers.{AnswersDelivery}
use Rattle.cmc_moves.specs.declared.moves.Stepped.TheVariants.{Done}
use Rattle.cmc_moves.proofs.Tables.{may_deliver}
use Rattle.cmc_kernel.proofs.RolePositions.{told_at}
use Rattle.cmc_waking.proofs.Owners.{equal_roles}
use Rattle.cmc_world.specs.Fed.{AreAffected, IsDeliveredTo}

-- ---- what it finds

cached_more : (kind : Kind) (to : ℕ) (ws : List Write) (at : Positions) → caches_at ws (with_position kind to at) ≡ with_cached kind (objects_by kind to ws) (caches_at ws at)
cached_more kinds.Certificate to ws at = refl
cached_more kinds.CertificateRequest to ws at = refl
cached_more kinds.Secret to ws at = refl

-- once the role is told so far it has what it had, and of the kind all
told_caches : (s : Setting) (h : List Entry) (role : Role) (kind : Kind) (to : ℕ) → has_informer role kind ≡ true
    → caches_at (writes s h) (positions (Deliver role kind to ∷ h) role) ≡ with_cached kind (objects_by kind to (writes s h)) (caches_at (writes s h) (positions h role))
told_caches s h role kind to informed =
    ap (caches_at (writes s h))
    (sym (told_at (role_eq role role) h role kind to role informed refl) ∙ ap (λ (b : Bool). if b then with_position kind to (positions h role) else positions h role) (equal_roles role))
    ∙ cached_more kind to (writes s h) (positions h role)

-- of a key that is not among those it sees the same once it is told so far
pub sees_same : (s : Setting) (h : List Entry) (role : Role) (kind : Kind) (all : Posted) (upto : ℕ) (keys : List Key) → has_informer role kind ≡ true
    → all.writes ≡ writes s h → told_of all.told role ≡ positions h role → affected.SeesSame role keys (caches_of all role) (with_cached kind (objects_by kind upto all.writes) (caches_of all role))
    → (key : Key) → is_among keys key ≡ false → views s (Deliver role kind upto ∷ h) role key ≡ views s h role key
sees_same s h role kind all upto keys informed is told same key off =
    let sees : caches_of all role ≡ caches_at (writes s h) (positions h role) = ap (λ (ws : List Write). caches_at ws (told_of all.told role)) is ∙ ap (caches_at (writes s h)) told in
    let here = subst (λ (c : Caches). affected.SeesSame role keys c (with_cached kind (objects_by kind upto (writes s h)) c)) sees
    (subst (λ (ws : List Write). affected.SeesSame role keys (caches_of all role) (with_cached kind (objects_by kind upto ws) (caches_of all role))) is same) in
    sym (views-told s (Deliver role kind upto ∷ h) role key)
    ∙ ap (λ (c : Caches). views_in role c key) (told_caches s h role kind upto informed)
    ∙ sym (here key off)
    ∙ views-told s h role key

same_by : (b : Bool) (s : Setting) (h : List Entry) (role : Role) (kind : Kind) (to upto : ℕ) (key : Key) → nat_le (accepted s h) (position h role kind + s.window) ≡ b → IsDeliveredTo s h role kind to upto
    → views s (Deliver role kind upto ∷ h) role key ≡ views s h role key → views s ((if b then Deliver role kind to else Listed role kind (accepted s h)) ∷ h) role key ≡ views s h role key
same_by true s h role kind to upto key is told same = subst (λ (n : ℕ). views s (Deliver role kind n ∷ h) role key ≡ views s h role key) (told.told is) same
same_by false s h role kind to upto key is told same = subst (λ (n : ℕ). views s (Listed role kind n ∷ h) role key ≡ views s h role key) (told.listed is) same

-- the keys that are found are those of which it may see something new
pub are_affected : (s : Setting) (h : List Entry) (role : Role) (kind : Kind) (to upto : ℕ) (all : Posted) (keys : List Key) → IsDeliveredTo s h role kind to upto
    → all.writes ≡ writes s h → told_of all.told role ≡ positions h role → AreNamed (kind_of_work role) all.writes keys
    → affected.SeesSame role keys (caches_of all role) (with_cached kind (objects_by kind upto all.writes) (caches_of all role)) → AreAffected s h role kind to keys
are_affected s h role kind to upto all keys delivered is told named same = record {
  work = λ key some. (named key some).0;
  same = λ key off. same_by (nat_le (accepted s h) (position h role kind + s.window)) s h role kind to upto key refl delivered (sees_same s h role kind all upto keys delivered.informed is told same key off);
}

-- ---- up to where a delivery tells

shown_if : (b : Bool) (p : ℕ) → b ≡ true → (if b then p else 0) ≡ p
shown_if true p on = refl
shown_if false p on = absurd (cc on)

pub shown : (s : Setting) (h : List Entry) (role : Role) (kind : Kind) → has_informer role kind ≡ true → position_of kind (positions h role) ≡ position h role kind
shown s h role kinds.Certificate on = shown_if (has_informer role kinds.Certificate) (position h role kinds.Certificate) on
shown s h role kinds.CertificateRequest on = shown_if (has_informer role kinds.CertificateRequest) (position h role kinds.CertificateRequest) on
shown s h role kinds.Secret on = shown_if (has_informer role kinds.Secret) (position h role kinds.Secret) on

-- nor of a version that it was told of, or that was not accepted
pub not_news : (s : Setting) (h : List Entry) (role : Role) (kind : Kind) (to from all : ℕ) → has_informer role kind ≡ true → from ≡ position_of kind (positions h role) → all ≡ length (writes s h) → (to ≤ from) ⊎ ((from < to) × (all < to)) → AnswersDelivery s h role kind to Done → ⊥
not_news s h role kind to from all on is count (inl low) a =
    let news = (may_deliver s h role kind to a).news.0 in
    let here = is ∙ shown s h role kind on in
    omega (arith, low, news, here)
not_news s h role kind to from all on is count (inr high) a =
    let low = write_at-low kind to (writes s h) (may_deliver s h role kind to a).news.1 in
    let above = high.1 in
    omega (arith, above, low, count)

-- the watch reaches back to its position
pub reaches_back : (s : Setting) (h : List Entry) (role : Role) (kind : Kind) (to from all : ℕ) → has_informer role kind ≡ true → from ≡ position_of kind (positions h role) → all ≡ length (writes s h) → from < to → to ≤ all → all - from ≤ s.window → IsDeliveredTo s h role kind to to
reaches_back s h role kind to from all on is count low high near =
    let here : from ≡ position h role kind = is ∙ shown s h role kind on in
    let whole : all ≡ accepted s h = count ∙ writes_count s h in
    record {
      informed = on;
      above = omega (arith, here, low);
      within = omega (arith, whole, high);
      told = λ within. refl;
      listed = λ beyond. absurd (let far : accepted s h ≤ position h role kind + s.window = omega (arith, here, whole, near, low, high) in grind (arith, nat_tests));
    }

-- or no longer does
pub lists_all : (s : Setting) (h : List Entry) (role : Role) (kind : Kind) (to from all : ℕ) → has_informer role kind ≡ true → from ≡ position_of kind (positions h role) → all ≡ length (writes s h) → from < to → to ≤ all → (all - from ≤ s.window → ⊥) → IsDeliveredTo s h role kind to all
lists_all s h role kind to from all on is count low high far =
    let here : from ≡ position h role kind = is ∙ shown s h role kind on in
    let whole : all ≡ accepted s h = count ∙ writes_count s h in
    record {
      informed = on;
      above = omega (arith, here, low, high);
      within = omega (arith, whole);
      told = λ within. absurd (far (near_by (nat_le (accepted s h) (position h role kind + s.window)) (accepted s h) (position h role kind) s.window all from refl within here whole low high));
      listed = λ beyond. whole;
    }
  where
    near_by : (b : Bool) (n p w all from : ℕ) → nat_le n (p + w) ≡ b → b ≡ true → from ≡ p → all ≡ n → from < to → to ≤ all → all - from ≤ w
    near_by true n p w all from test on here whole low high = let le : n ≤ p + w = grind (arith, nat_tests) in omega (arith, le, here, whole)
    near_by false n p w all from test on here whole low high = absurd (cc on)

-- what the search takes for granted
pub from_low : (s : Setting) (h : List Entry) (role : Role) (kind : Kind) (to from upto : ℕ) → from ≡ position_of kind (positions h role) → IsDeliveredTo s h role kind to upto → from ≤ upto
from_low s h role kind to from upto is told = let here = is ∙ shown s h role kind told.informed in let above = told.above in omega (arith, here, above)

pub upto_within : (s : Setting) (h : List Entry) (role : Role) (kind : Kind) (to upto : ℕ) (ws : List Write) → ws ≡ writes s h → IsDeliveredTo s h role kind to upto → upto ≤ length ws
upto_within s h role kind to upto ws is told =
    let within = told.within in
    let all : length ws ≡ accepted s h = ap length is ∙ writes_count s h in
    omega (arith, within, all)

-- two facts of what a call answers
pub both_ok : {A E : Type 0} (r : Result A E) (P Q R : A → Type 0) → ((a : A) → P a → Q a → R a) → IfOk r P → IfOk r Q → IfOk r R
both_ok (Ok a) P Q R f p q = f a p q
both_ok (Err e) P Q R f p q = tt

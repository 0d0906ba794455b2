-- What a world judges by what it holds is what the history says.
use Rattle.std.proofs.Common.{◌≡◌, ℕ, ℤ, ◌+◌, ◌<◌, ◌≤◌, Bool, true, false, Option, Some, None, List, length, refl, sym, ap, subst, ◌∙◌, arith}
use Rattle.std.proofs.lemmas.Bool.Decides.{nat_tests}
use Rattle.std.specs.Prelude.{◌↔◌, ◌&&◌, not, IsTrue, is_some, nat_le, if◌then◌else◌}
use Rattle.cmc_meta.specs.declared.key.Key.{Key}
use Rattle.cmc_meta.specs.declared.key.Kind.{Kind}
use Rattle.cmc_meta.specs.declared.key.Kind.TheVariants as kinds
use Rattle.cmc_objects.specs.declared.role.Role.{Role}
use Rattle.cmc_objects.specs.declared.entry.Positions.{Positions}
use Rattle.cmc_objects.specs.declared.entry.Entry.{Entry}
use Rattle.cmc_objects.specs.declared.entry.Entry.TheVariants.{Deliver, List as Listed}
use Rattle.cmc_pass.specs.declared.pass.Views.{Views}
use Rattle.cmc_model.specs.declared.write.Write.{Write}
use Rattle.cmc_rules.specs.declared.progress.OpenPass.{OpenPass}
use Rattle.cmc_rules.specs.declared.progress.Past.{Past}
use Rattle.cmc_model.specs.Histories.{Setting, moment, accepted}
use Rattle.cmc_model.specs.Writes.{writes, write_at, last_of_kind, is_known}
use Rattle.cmc_objects.specs.Informers.{has_informer, kind_of_work}
use Rattle.cmc_rules.specs.Positions.{position, positions, position_of}
use Rattle.cmc_rules.specs.Views.{views, views_in}
use Rattle.cmc_rules.specs.Passes.{open_pass, is_pass_of}
use Rattle.cmc_rules.specs.Memory.{past}
use Rattle.cmc_rules.specs.Sameness.{IsSame}
use Rattle.cmc_rules.specs.Legality.{IsOfKind, IsListing, IsOpen}
use Rattle.cmc_rules.specs.Scripts.{held}
use Rattle.cmc_held.specs.declared.role_states.RoleState.{RoleState}
use Rattle.cmc_held.specs.RoleStates.{kind_flag_of}
use Rattle.cmc_held.specs.Dues.{shown_positions}
use Rattle.cmc_rules.specs.Sameness.{own_above}
use Rattle.cmc_caches.specs.Told.{caches_at}
use Rattle.cmc_caches.proofs.ViewsTold.{views-told}
use Rattle.cmc_model.proofs.Writes.{writes_count}
use Rattle.cmc_moves.specs.declared.moves.Stepped.{Stepped}
use Rattle.cmc_moves.specs.declared.moves.Stepped.TheVariants.{Done}
use Rattle.cmc_kernel.specs.Kept.{role_state, Holdings, IsKept}
use Rattle.cmc_moves.specs.Quiet.{IsQuiet}
use Rattle.cmc_moves.specs.Answers.{IsWatchEvent, delivered, IsQueued, AnswersDelivery, AnswersBegin}
use Rattle.cmc_rules.specs.Passes.{IsWorking}
use Rattle.cmc_moves.specs.Tables.{delivery_answer, begin_answer}
use Rattle.cmc_moves.proofs.Tables.{Decides, decided, delivery_answers, begin_answers, may_deliver}

pub position_is : (s : Setting) (h : List Entry) (role : Role) (kind : Kind) → position_of kind (role_state s h role).told ≡ position h role kind
position_is s h role kinds.Certificate = refl
position_is s h role other = refl

pub held_is : (s : Setting) (h : List Entry) (role : Role) (kind : Kind) → kind_flag_of kind (role_state s h role).held ≡ held s h role kind
held_is s h role kinds.Certificate = refl
held_is s h role other = refl

pub told_is : (s : Setting) (h : List Entry) (w : Holdings) (role : Role) (kind : Kind) → IsKept s h w → position_of kind (w.role_state role).told ≡ position h role kind
told_is s h w role kind k = ap (λ (t : RoleState). position_of kind t.told) (k.held.role_state role) ∙ position_is s h role kind

-- so many entries more fit
pub fits_by : (s : Setting) (h : List Entry) (more entries events : ℕ) (room : Bool) → entries ≡ length h → events ≡ s.events
    → (IsTrue room ↔ (entries + more ≤ events)) → Decides (length h + more ≤ s.events) room
fits_by s h more entries events room n e r = subst (λ (m : ℕ). Decides (length h + more ≤ m) room) e (subst (λ (m : ℕ). Decides (m + more ≤ events) room) n (decided (entries + more ≤ events) room r))

-- whether an informer is held is kept
pub kept_is : (s : Setting) (h : List Entry) (w : Holdings) (role : Role) (kind : Kind) (t : RoleState) (kept : Bool) → IsKept s h w → t ≡ w.role_state role → kept ≡ kind_flag_of kind t.held
    → kept ≡ held s h role kind
kept_is s h w role kind t kept k at f = f ∙ ap (λ (x : RoleState). kind_flag_of kind x.held) (at ∙ k.held.role_state role) ∙ held_is s h role kind

pub judged_delivery : (s : Setting) (h : List Entry) (w : Holdings) (role : Role) (kind : Kind) (to : ℕ) (t : RoleState) (place newest entries events : ℕ) (informed kept news room : Bool) (answer : Stepped)
    → IsKept s h w → t ≡ w.role_state role → place ≡ position_of kind t.told → newest ≡ last_of_kind kind w.log
    → (IsTrue news ↔ ((place < to) × IsOfKind kind (write_at to w.log))) → entries ≡ length h → events ≡ s.events → (IsTrue room ↔ (entries + 1 ≤ events))
    → informed ≡ has_informer role kind → kept ≡ kind_flag_of kind t.held
    → answer ≡ delivery_answer t.running informed kept place newest to news entries room
    → AnswersDelivery s h role kind to answer
judged_delivery s h w role kind to t place newest entries events informed kept news room answer k at p l n e g r i f a =
    let stands : t ≡ role_state s h role = at ∙ k.held.role_state role in
    let place_is : place ≡ position h role kind = p ∙ ap (λ (x : RoleState). position_of kind x.told) stands ∙ position_is s h role kind in
    let newest_is : newest ≡ last_of_kind kind (writes s h) = l ∙ ap (last_of_kind kind) k.held.log in
    let news_is : IsTrue news ↔ IsWatchEvent s h role kind to =
    subst (λ (m : ℕ). IsTrue news ↔ ((m < to) × IsOfKind kind (write_at to (writes s h)))) place_is (subst (λ (ws : List Write). IsTrue news ↔ ((place < to) × IsOfKind kind (write_at to ws))) k.held.log n) in
    delivery_answers s h role kind to answer t.running informed kept news room
    (sym (ap (λ (x : RoleState). x.running) stands)) (sym i) (sym (f ∙ ap (λ (x : RoleState). kind_flag_of kind x.held) stands ∙ held_is s h role kind))
    (decided (IsWatchEvent s h role kind to) news news_is) (fits_by s h 1 entries events room e g r)
    (a
    ∙ ap (λ (m : ℕ). delivery_answer t.running informed kept m newest to news entries room) place_is
    ∙ ap (λ (m : ℕ). delivery_answer t.running informed kept (position h role kind) m to news entries room) newest_is
    ∙ ap (λ (m : ℕ). delivery_answer t.running informed kept (position h role kind) (last_of_kind kind (writes s h)) to news m room) e)

-- a key of the role's work that is not quiet
queued_by : (s : Setting) (h : List Entry) (role : Role) (key : Key) (of_work quiet : Bool) → (IsTrue of_work ↔ ((key.kind ≡ kind_of_work role) × (is_known key (writes s h) ≡ true))) → (IsTrue quiet ↔ IsQuiet s h role key)
    → IsTrue (of_work && not quiet) ↔ IsQueued s h role key
queued_by s h role key true false q z = (λ on. let of = q.0 refl in record { work = of.0; known = of.1; worth = λ is. let bad = z.1 is in absurd (cc bad) }, λ is. refl)
queued_by s h role key true true q z = (λ on. absurd (cc on), λ is. absurd (is.worth (z.0 refl)))
queued_by s h role key false quiet q z = (λ on. absurd (cc on), λ is. let bad = q.1 (is.work, is.known) in absurd (cc bad))

pub judged_begin : (s : Setting) (h : List Entry) (w : Holdings) (role : Role) (key : Key) (t : RoleState) (at : Positions) (seen : Views) (before : Past) (now : ℤ) (own : Option ℕ) (entries events : ℕ) (working same of_work quiet room : Bool) (answer : Stepped)
    → IsKept s h w → t ≡ w.role_state role → at ≡ shown_positions role t.told → seen ≡ views s h role key → before ≡ w.past role key → now ≡ w.moment
    → (IsTrue working ↔ ((n : ℕ) × (is_pass_of role key (w.opened n) ≡ true))) → own ≡ own_above before.own at → (IsTrue same ↔ IsSame before.last seen now at)
    → (IsTrue of_work ↔ ((key.kind ≡ kind_of_work role) × (is_known key w.log ≡ true))) → (IsTrue quiet ↔ IsQuiet s h role key) → entries ≡ length h → events ≡ s.events → (IsTrue room ↔ (entries + 1 ≤ events))
    → answer ≡ begin_answer t.running working own same (of_work && not quiet) entries room
    → AnswersBegin s h role key answer
judged_begin s h w role key t at seen before now own entries events working same of_work quiet room answer k stood shown saw b m busy o same_as q z e g r a =
    let stands : t ≡ role_state s h role = stood ∙ k.held.role_state role in
    let at_is : at ≡ positions h role = shown ∙ ap (λ (x : RoleState). shown_positions role x.told) stands in
    let before_is : before ≡ past s h role key = b ∙ k.held.past role key in
    let now_is : now ≡ moment s h = m ∙ k.held.moment in
    let own_is : own ≡ own_above (past s h role key).own (positions h role) =
    o ∙ ap (λ (x : Past). own_above x.own at) before_is ∙ ap (λ (x : Positions). own_above (past s h role key).own x) at_is in
    let working_is : IsTrue working ↔ IsWorking s h role key = (λ y. let found = busy.0 y in (found.0, ap (is_pass_of role key) (sym (k.held.opened found.0)) ∙ found.1), λ y. busy.1 (y.0, ap (is_pass_of role key) (k.held.opened y.0) ∙ y.1)) in
    let same_is : IsTrue same ↔ IsSame (past s h role key).last (views s h role key) (moment s h) (positions h role) =
    subst (λ (x : Past). IsTrue same ↔ IsSame x.last (views s h role key) (moment s h) (positions h role)) before_is
    (subst (λ (x : Views). IsTrue same ↔ IsSame before.last x (moment s h) (positions h role)) saw
    (subst (λ (x : ℤ). IsTrue same ↔ IsSame before.last seen x (positions h role)) now_is
    (subst (λ (x : Positions). IsTrue same ↔ IsSame before.last seen now x) at_is same_as))) in
    let queued_is : IsTrue (of_work && not quiet) ↔ IsQueued s h role key =
    queued_by s h role key of_work quiet (subst (λ (ws : List Write). IsTrue of_work ↔ ((key.kind ≡ kind_of_work role) × (is_known key ws ≡ true))) k.held.log q) z in
    begin_answers s h role key answer t.running working same (of_work && not quiet) room
    (sym (ap (λ (x : RoleState). x.running) stands)) (decided (IsWorking s h role key) working working_is)
    (decided (IsSame (past s h role key).last (views s h role key) (moment s h) (positions h role)) same same_is)
    (decided (IsQueued s h role key) (of_work && not quiet) queued_is) (fits_by s h 1 entries events room e g r)
    (a ∙ ap (λ (x : Option ℕ). begin_answer t.running working x same (of_work && not quiet) entries room) own_is
    ∙ ap (λ (n : ℕ). begin_answer t.running working (own_above (past s h role key).own (positions h role)) same (of_work && not quiet) n room) e)

open_by : (p : Option OpenPass) → IsTrue (is_some p) ↔ IsOpen p
open_by None = (λ e. absurd (cc e), λ e. absurd e)
open_by (Some p) = (λ e. tt, λ e. refl)

-- the watch reaches back to the position
pub reached : (s : Setting) (h : List Entry) (w : Holdings) (role : Role) (kind : Kind) (t : RoleState) (place count window : ℕ) (b : Bool)
    → IsKept s h w → t ≡ w.role_state role → place ≡ position_of kind t.told → count ≡ length w.log → window ≡ s.window
    → (IsTrue b ↔ (count ≤ place + window)) → IsTrue b ↔ (accepted s h ≤ position h role kind + s.window)
reached s h w role kind t place count window b k at p n v r =
    let place_is : place ≡ position h role kind = p ∙ ap (λ (x : RoleState). position_of kind x.told) at ∙ told_is s h w role kind k in
    let count_is : count ≡ accepted s h = n ∙ ap length k.held.log ∙ writes_count s h in
    subst (λ (m : ℕ). IsTrue b ↔ (accepted s h ≤ position h role kind + m)) v
    (subst (λ (m : ℕ). IsTrue b ↔ (accepted s h ≤ m + window)) place_is (subst (λ (m : ℕ). IsTrue b ↔ (m ≤ place + window)) count_is r))

-- where it does not, the role lists
pub listing : (s : Setting) (h : List Entry) (role : Role) (kind : Kind) (to newest : ℕ) (b : Bool) → AnswersDelivery s h role kind to Done
    → (IsTrue b ↔ (accepted s h ≤ position h role kind + s.window)) → b ≡ false → newest ≡ accepted s h → IsListing s h role kind newest
listing s h role kind to newest b a r off n =
    let may = may_deliver s h role kind to a in
    record { running = may.running; informed = may.informed; beyond = beyond (decided (accepted s h ≤ position h role kind + s.window) b r).no; newest = n } where
      beyond : (b ≡ false → accepted s h ≤ position h role kind + s.window → ⊥) → position h role kind + s.window < accepted s h
      beyond over = let not = over off in grind (arith, not)

pub delivered_list : (s : Setting) (h : List Entry) (role : Role) (kind : Kind) (to newest : ℕ) (b : Bool) → (IsTrue b ↔ (accepted s h ≤ position h role kind + s.window)) → b ≡ false → newest ≡ accepted s h
    → delivered s h role kind to ≡ Listed role kind newest
delivered_list s h role kind to newest b r off n =
    let over = (decided (accepted s h ≤ position h role kind + s.window) b r).no off in
    let e : nat_le (accepted s h) (position h role kind + s.window) ≡ false = grind (arith, nat_tests, over) in
    ap (λ (x : Bool). if x then Deliver role kind to else Listed role kind (accepted s h)) e ∙ ap (Listed role kind) (sym n)

pub newest_is : (s : Setting) (h : List Entry) (w : Holdings) (n : ℕ) → IsKept s h w → n ≡ length w.log → n ≡ accepted s h
newest_is s h w n k e = e ∙ ap length k.held.log ∙ writes_count s h

-- what a role sees in what a world says that it was told of
pub saw : (s : Setting) (h : List Entry) (w : Holdings) (role : Role) (key : Key) (seen : Views) → IsKept s h w → seen ≡ views_in role (caches_at w.log (w.told role)) key → seen ≡ views s h role key
saw s h w role key seen k is =
    is ∙ ap (λ (ws : List Write). views_in role (caches_at ws (w.told role)) key) k.held.log ∙ ap (λ (at : Positions). views_in role (caches_at (writes s h) at) key) (k.held.told role) ∙ views-told s h role key

pub shown_is : (s : Setting) (h : List Entry) (w : Holdings) (role : Role) (t : RoleState) (at : Positions) → IsKept s h w → t ≡ w.role_state role → at ≡ shown_positions role t.told → at ≡ positions h role
shown_is s h w role t at k stood shown = shown ∙ ap (λ (x : RoleState). shown_positions role x.told) (stood ∙ k.held.role_state role)

-- ---- an open pass

pub opened_is : (s : Setting) (h : List Entry) (w : Holdings) (n : ℕ) (p : OpenPass) → IsKept s h w → w.opened n ≡ Some p → open_pass s h n ≡ Some p
opened_is s h w n p k e = sym (k.held.opened n) ∙ e

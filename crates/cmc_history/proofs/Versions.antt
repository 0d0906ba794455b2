-- Reading the entries in order of time comes to what the first accepted writes leave.
use Rattle.std.proofs.Common.{◌≡◌, ℕ, ◌+◌, ◌<◌, ◌≤◌, min, ℤ, List, [], ◌∷◌, length, Option, Some, None, Bool, true, false, cond, refl, sym, ap, ◌∙◌, arith, rules}
use Rattle.std.specs.Prelude.{if◌then◌else◌, nat_lt}
use Rattle.std.specs.Cmp.Rules.{comparing}
use Rattle.std.specs.FinMap.{get-empty}
use Rattle.std.specs.Ordering.{eq_by_cmp}
use Rattle.std.proofs.lemmas.Bool.Decides.{nat_tests}
use Rattle.std.proofs.lemmas.Map.Views.{tells_apart}
use Rattle.cmc_meta.specs.declared.key.Key.{Key}
use Rattle.cmc_meta.specs.Keys.{key_cmp, key_eq}
use Rattle.cmc_objects.specs.declared.object.Object.{Object}
use Rattle.cmc_objects.specs.declared.call.Call.{Call}
use Rattle.cmc_objects.specs.declared.entry.Entry.{Entry}
use Rattle.cmc_objects.specs.declared.entry.Entry.TheVariants.{Script, Call as Called, Deliver, List as Listed, Begin, Ask, Made, Signed, Answered, Judged, End, Stop, Start, Tick}
use Rattle.cmc_model.specs.declared.write.Write.{Write}
use Rattle.cmc_model.specs.Objects.{Objects, object_at}
use Rattle.cmc_model.specs.Replies.{State, is_accepted, key_of_call, settled, stored, put_at}
use Rattle.cmc_model.specs.Histories.{Setting, moment, state, accepted}
use Rattle.cmc_model.specs.Writes.{writes, write_of, contents, oldest, objects_at}
use Rattle.cmc_meta.proofs.KeyOrder.{key_cmp-IsAntisymmetric}
use Rattle.cmc_model.proofs.Writes.{writes_count, writes_leave, oldest-older, oldest-beyond}
use Rattle.cmc_model.proofs.Versions.{object_at-put}
use Rattle.cmc_history.specs.declared.standing.Standing.{Standing}
use Rattle.cmc_history.specs.Replays.{written_over, count_after, object_after, standing_after, replayed}
use Rattle.cmc_model.specs.Replies.{stored_over}

-- ---- one write more

-- a call stores by what stands under its own key
stored-over : (v : ℕ) (now : ℤ) (m : Objects) (call : Call) → stored v now m call ≡ stored_over v now (object_at m (key_of_call call)) call
stored-over v now m other = refl

key_eq-by_cmp : (a b : Key) → key_eq a b ≡ eq_by_cmp key_cmp a b
key_eq-by_cmp = search (comparing, rules)

put_in : (v : ℕ) (now : ℤ) (m : Objects) (call : Call) (key : Key) (b : Bool) → eq_by_cmp key_cmp key (key_of_call call) ≡ b
    → (if b then stored_over v now (object_at m key) call else object_at m key) ≡ cond b (stored v now m call) (object_at m key)
put_in v now m call key false e = refl
put_in v now m call key true e =
    let same : key ≡ key_of_call call = tells_apart key_cmp-IsAntisymmetric key (key_of_call call) e in
    ap (λ (k : Key). stored_over v now (object_at m k) call) same ∙ sym (stored-over v now m call)

-- what stands under the key once the call is accepted
written-put : (v : ℕ) (now : ℤ) (m : Objects) (call : Call) (key : Key)
    → written_over key v now (object_at m key) call ≡ object_at (put_at m (key_of_call call) (stored v now m call)) key
written-put v now m call key =
    ap (λ (b : Bool). if b then stored_over v now (object_at m key) call else object_at m key) (key_eq-by_cmp key (key_of_call call))
    ∙ put_in v now m call key (eq_by_cmp key_cmp key (key_of_call call)) refl
    ∙ sym (object_at-put m (key_of_call call) (stored v now m call) key)

-- ---- the standing is that of the first writes

pub record IsStanding (s : Setting) (h : List Entry) (position : ℕ) (key : Key) (standing : Standing) : Type 0 where
  pub moment_is : standing.moment ≡ moment s h
  pub count_is : standing.accepted ≡ min (accepted s h) position
  pub object_is : standing.object ≡ object_at (objects_at s h position) key

count_more : (a n position : ℕ) (c : Bool) → nat_lt n position ≡ c → n ≡ min a position → (if c then n + 1 else n) ≡ min (a + 1) position
count_more a n position true e is = let less : n < position = grind (arith, nat_tests) in omega arith
count_more a n position false e is = let more : position ≤ n = grind (arith, nat_tests) in omega arith

-- the write is among the first ones, or it is not
object_more : (now : ℤ) (st : State) (call : Call) (ws : List Write) (position : ℕ) (key : Key) (n : ℕ) (old : Option Object) (c : Bool) → nat_lt n position ≡ c
    → length ws ≡ st.accepted → contents ws ≡ st.objects → n ≡ min st.accepted position → old ≡ object_at (contents (oldest position ws)) key
    → (if c then written_over key (n + 1) now old call else old) ≡ object_at (contents (oldest position (write_of now st call ∷ ws))) key
unfolding contents
object_more now st call ws position key n old true e count leaves is stands =
    let less : n < position = grind (arith, nat_tests) in
    let all : n ≡ st.accepted = omega arith in
    let before : oldest position ws ≡ ws = oldest-beyond position ws (omega arith) in
    let after : oldest position (write_of now st call ∷ ws) ≡ write_of now st call ∷ ws = oldest-beyond position (write_of now st call ∷ ws) (omega arith) in
    let there : old ≡ object_at st.objects key = stands ∙ ap (λ (l : List Write). object_at (contents l) key) before ∙ ap (λ (m : Objects). object_at m key) leaves in
    ap (λ (o : Option Object). written_over key (n + 1) now o call) there
    ∙ ap (λ (k : ℕ). written_over key (k + 1) now (object_at st.objects key) call) all
    ∙ written-put (st.accepted + 1) now st.objects call key
    ∙ sym (ap (λ (m : Objects). object_at (put_at m (key_of_call call) (stored (st.accepted + 1) now st.objects call)) key) leaves)
    ∙ sym (ap (λ (l : List Write). object_at (contents l) key) after)
object_more now st call ws position key n old false e count leaves is stands =
    let more : position ≤ n = grind (arith, nat_tests) in
    let same : oldest position (write_of now st call ∷ ws) ≡ oldest position ws = oldest-older position (write_of now st call) ws (omega arith) in
    stands ∙ sym (ap (λ (l : List Write). object_at (contents l) key) same)

counted : (call : Call) (a n position : ℕ) (b : Bool) → n ≡ min a position
    → count_after position n (if b then Some call else None) ≡ min (if b then a + 1 else a) position
counted call a n position true is = count_more a n position (nat_lt n position) refl is
counted call a n position false is = is

written : (st : State) (call : Call) (ws : List Write) (position : ℕ) (key : Key) (standing : Standing) (b : Bool)
    → length ws ≡ st.accepted → contents ws ≡ st.objects → standing.accepted ≡ min st.accepted position → standing.object ≡ object_at (contents (oldest position ws)) key
    → object_after position key standing (if b then Some call else None) ≡ object_at (contents (oldest position (if b then write_of standing.moment st call ∷ ws else ws))) key
written st call ws position key standing true count leaves is stands =
    object_more standing.moment st call ws position key standing.accepted standing.object (nat_lt standing.accepted position) refl count leaves is stands
written st call ws position key standing false count leaves is stands = stands

called : (s : Setting) (call : Call) (b : Bool) (h : List Entry) (position : ℕ) (key : Key) (standing : Standing) → IsStanding s h position key standing
    → object_after position key standing (if b then Some call else None) ≡ object_at (contents (oldest position (if b then write_of (moment s h) (state s h) call ∷ writes s h else writes s h))) key
called s call b h position key standing is =
    written (state s h) call (writes s h) position key standing b (writes_count s h) (writes_leave s h) is.count_is is.object_is
    ∙ ap (λ (now : ℤ). object_at (contents (oldest position (if b then write_of now (state s h) call ∷ writes s h else writes s h))) key) is.moment_is

pub entry_read : (s : Setting) (e : Entry) (h : List Entry) (position : ℕ) (key : Key) (standing : Standing) → IsStanding s h position key standing
    → IsStanding s (e ∷ h) position key (standing_after position key standing e)
entry_read s (Script step) h position key standing is = record { moment_is = is.moment_is; count_is = is.count_is; object_is = is.object_is }
entry_read s (Called who call reply) h position key standing is = record {
  moment_is = is.moment_is;
  count_is = counted (settled call reply) (accepted s h) standing.accepted position (is_accepted reply) is.count_is;
  object_is = called s (settled call reply) (is_accepted reply) h position key standing is;
}
entry_read s (Deliver role kind to) h position key standing is = record { moment_is = is.moment_is; count_is = is.count_is; object_is = is.object_is }
entry_read s (Listed role kind to) h position key standing is = record { moment_is = is.moment_is; count_is = is.count_is; object_is = is.object_is }
entry_read s (Begin pass role at place now) h position key standing is = record { moment_is = is.moment_is; count_is = is.count_is; object_is = is.object_is }
entry_read s (Ask pass order) h position key standing is = record { moment_is = is.moment_is; count_is = is.count_is; object_is = is.object_is }
entry_read s (Made pass bytes) h position key standing is = record { moment_is = is.moment_is; count_is = is.count_is; object_is = is.object_is }
entry_read s (Signed pass signature) h position key standing is = record { moment_is = is.moment_is; count_is = is.count_is; object_is = is.object_is }
entry_read s (Answered pass answer) h position key standing is = record { moment_is = is.moment_is; count_is = is.count_is; object_is = is.object_is }
entry_read s (Judged pass approved) h position key standing is = record { moment_is = is.moment_is; count_is = is.count_is; object_is = is.object_is }
entry_read s (End pass cause) h position key standing is = record { moment_is = is.moment_is; count_is = is.count_is; object_is = is.object_is }
entry_read s (Stop role) h position key standing is = record { moment_is = is.moment_is; count_is = is.count_is; object_is = is.object_is }
entry_read s (Start role at) h position key standing is = record { moment_is = is.moment_is; count_is = is.count_is; object_is = is.object_is }
entry_read s (Tick now) h position key standing is = record { moment_is = refl; count_is = is.count_is; object_is = is.object_is }

nothing_read : (s : Setting) (position : ℕ) (key : Key) → IsStanding s [] position key (replayed s.now position key [])
unfolding contents oldest
nothing_read s position key = record { moment_is = refl; count_is = omega arith; object_is = sym (get-empty key_cmp key) }

pub all_read : (s : Setting) (h : List Entry) (position : ℕ) (key : Key) → IsStanding s h position key (replayed s.now position key h)
all_read s [] position key = nothing_read s position key
all_read s (e ∷ h) position key = entry_read s e h position key (replayed s.now position key h) (all_read s h position key)

-- the object that is come to is the one under the key after the first writes
pub replayed_object : (s : Setting) (now : ℤ) (h : List Entry) (position : ℕ) (key : Key) → s.now ≡ now
    → (replayed now position key h).object ≡ object_at (objects_at s h position) key
replayed_object s now h position key e = ap (λ (t : ℤ). (replayed t position key h).object) (sym e) ∙ (all_read s h position key).object_is

-- What the first writes of a history leave, and what stays so as it grows.
use Rattle.std.proofs.Common.{◌≡◌, ℕ, suc, ◌+◌, ◌-◌, ◌≤◌, ◌<◌, get_or, ℤ, List, [], ◌∷◌, length, Bool, true, false, cond, refl, sym, ap, ◌∙◌, arith}
use Rattle.std.specs.Prelude.{if◌then◌else◌, nat_le, reverse, ◌==◌}
use Rattle.std.proofs.lemmas.Bool.Decides.{nat_tests}
use Rattle.std.proofs.lemmas.List.{length-reverse, get_or-reverse}
use Rattle.cmc_meta.specs.declared.key.Kind.{Kind}
use Rattle.cmc_objects.specs.declared.call.Call.{Call}
use Rattle.cmc_objects.specs.declared.entry.Entry.{Entry}
use Rattle.cmc_objects.specs.declared.entry.Entry.TheVariants.{Call as Called}
use Rattle.cmc_model.specs.declared.write.Write.{Write}
use Rattle.cmc_model.specs.Objects.{Objects}
use Rattle.cmc_model.specs.Replies.{State, is_accepted, put_at, key_of_call, settled, stored}
use Rattle.cmc_model.specs.Histories.{Setting, moment, state, objects, accepted}
use Rattle.cmc_model.specs.Writes.{writes, write_of, contents, oldest, of_kind, kind_eq, objects_of}

-- a further write leaves the first ones as they were
pub oldest-older : (p : ℕ) (w : Write) (ws : List Write) → p ≤ length ws → oldest p (w ∷ ws) ≡ oldest p ws
unfolding oldest
oldest-older p w ws h = let e : nat_le (length (w ∷ ws)) p ≡ false = grind (arith, nat_tests) in rw e refl

pub oldest-beyond : (p : ℕ) (ws : List Write) → length ws ≤ p → oldest p ws ≡ ws
unfolding oldest
oldest-beyond p [] h = refl
oldest-beyond p (w ∷ ws) h = let e : nat_le (length (w ∷ ws)) p ≡ true = grind (arith, nat_tests) in rw e refl

pub oldest-all : (ws : List Write) → oldest (length ws) ws ≡ ws
oldest-all ws = oldest-beyond (length ws) ws (omega arith)

pub oldest-none : (ws : List Write) → oldest 0 ws ≡ []
unfolding oldest
oldest-none [] = refl
oldest-none (w ∷ ws) = let e : nat_le (length (w ∷ ws)) 0 ≡ false = grind (arith, nat_tests) in rw e (oldest-none ws)

counted : (b : Bool) (w : Write) (ws : List Write) (n : ℕ) → length ws ≡ n → length (if b then w ∷ ws else ws) ≡ (if b then n + 1 else n)
counted true w ws n h = omega (arith, h)
counted false w ws n h = h

-- there are as many writes as were accepted
pub writes_count : (s : Setting) (h : List Entry) → length (writes s h) ≡ accepted s h
writes_count s [] = refl
writes_count s (Called who call reply ∷ h) = counted (is_accepted reply) (write_of (moment s h) (state s h) (settled call reply)) (writes s h) (accepted s h) (writes_count s h)
writes_count s (other ∷ h) = writes_count s h

left : (b : Bool) (now : ℤ) (st : State) (call : Call) (ws : List Write) → contents ws ≡ st.objects
    → contents (if b then write_of now st call ∷ ws else ws) ≡ (if b then put_at st.objects (key_of_call call) (stored (st.accepted + 1) now st.objects call) else st.objects)
unfolding contents
left true now st call ws h = ap (λ (m : Objects). put_at m (key_of_call call) (stored (st.accepted + 1) now st.objects call)) h
left false now st call ws h = h

-- all the writes leave the objects that stand
pub writes_leave : (s : Setting) (h : List Entry) → contents (writes s h) ≡ objects s h
unfolding contents
writes_leave s [] = refl
writes_leave s (Called who call reply ∷ h) = left (is_accepted reply) (moment s h) (state s h) (settled call reply) (writes s h) (writes_leave s h)
writes_leave s (other ∷ h) = writes_leave s h

older : (b : Bool) (p : ℕ) (w : Write) (ws : List Write) → p ≤ length ws → oldest p (if b then w ∷ ws else ws) ≡ oldest p ws
older true p w ws h = oldest-older p w ws h
older false p w ws h = refl

-- the first writes are the same after any entry
pub oldest-entry : (s : Setting) (e : Entry) (h : List Entry) (p : ℕ) → p ≤ accepted s h → oldest p (writes s (e ∷ h)) ≡ oldest p (writes s h)
oldest-entry s (Called who call reply) h p le = older (is_accepted reply) p (write_of (moment s h) (state s h) (settled call reply)) (writes s h) (omega (arith, le, writes_count s h))
oldest-entry s other h p le = refl

pub objects_of-older : (kind : Kind) (s : Setting) (e : Entry) (h : List Entry) (p : ℕ) → p ≤ accepted s h → objects_of kind s (e ∷ h) p ≡ objects_of kind s h p
objects_of-older kind s e h p le = ap (λ (ws : List Write). contents (of_kind kind ws)) (oldest-entry s e h p le)

next_at : (w : Write) (ws : List Write) (i : ℕ) (d : Write) → i < length (w ∷ ws) → (b : Bool) → (i == length ws) ≡ b
    → (i < length ws → oldest (i + 1) ws ≡ get_or ws (length ws - 1 - i) d ∷ oldest i ws)
    → oldest (i + 1) (w ∷ ws) ≡ get_or (w ∷ ws) (length (w ∷ ws) - 1 - i) d ∷ oldest i (w ∷ ws)
next_at w ws i d h true e below =
    let same : i ≡ length ws = grind (arith, nat_tests) in
    let zero_left : length (w ∷ ws) - 1 - i ≡ 0 = omega (arith, same) in
    let one_more : length ws + 1 ≡ length (w ∷ ws) = omega arith in
    rw (zero_left, same, one_more) (oldest-all (w ∷ ws) ∙ ap (λ (l : List Write). w ∷ l) (sym (oldest-all ws) ∙ sym (oldest-older (length ws) w ws (omega arith))))
next_at w ws i d h false e below =
    let less : i < length ws = grind (arith, nat_tests) in
    let some_left : length (w ∷ ws) - 1 - i ≡ suc (length ws - 1 - i) = omega (arith, less) in
    rw some_left (oldest-older (i + 1) w ws (omega (arith, less)) ∙ below less ∙ ap (λ (l : List Write). get_or ws (length ws - 1 - i) d ∷ l) (sym (oldest-older i w ws (omega (arith, less)))))

-- the first i + 1 writes are the first i with the next one
pub oldest-next : (ws : List Write) (i : ℕ) (d : Write) → i < length ws → oldest (i + 1) ws ≡ get_or ws (length ws - 1 - i) d ∷ oldest i ws
oldest-next [] i d h = absurd (omega (arith, h))
oldest-next (w ∷ ws) i d h = next_at w ws i d h (i == length ws) refl (λ less. oldest-next ws i d less)

-- the same, where the writes are kept in order of time
pub oldest-replayed : (ws : List Write) (i : ℕ) (d : Write) → i < length ws → oldest (i + 1) (reverse ws) ≡ get_or ws i d ∷ oldest i (reverse ws)
oldest-replayed ws i d h =
    let n : length (reverse ws) ≡ length ws = length-reverse ws in
    let step = oldest-next (reverse ws) i d (omega (arith, h, n)) in
    let at : get_or (reverse ws) (length (reverse ws) - 1 - i) d ≡ get_or ws (length ws - 1 - (length (reverse ws) - 1 - i)) d = get_or-reverse ws (length (reverse ws) - 1 - i) d (omega (arith, h, n)) in
    let place : length ws - 1 - (length (reverse ws) - 1 - i) ≡ i = omega (arith, h, n) in
    step ∙ ap (λ (w : Write). w ∷ oldest i (reverse ws)) (at ∙ ap (λ (p : ℕ). get_or ws p d) place)

one_more : (kind : Kind) (w : Write) (ws : List Write) (b : Bool) → kind_eq w.key.kind kind ≡ b
    → contents (of_kind kind (w ∷ ws)) ≡ (if b then put_at (contents (of_kind kind ws)) w.key w.object else contents (of_kind kind ws))
unfolding contents
one_more kind w ws true e = ap (λ (b : Bool). contents (cond b (w ∷ of_kind kind ws) (of_kind kind ws))) e
one_more kind w ws false e = ap (λ (b : Bool). contents (cond b (w ∷ of_kind kind ws) (of_kind kind ws))) e

-- and so of one kind, where the writes of other kinds leave what it sees
pub contents_of-next : (kind : Kind) (ws : List Write) (i : ℕ) (d : Write) → i < length ws
    → contents (of_kind kind (oldest (i + 1) (reverse ws)))
    ≡ (if kind_eq (get_or ws i d).key.kind kind then put_at (contents (of_kind kind (oldest i (reverse ws)))) (get_or ws i d).key (get_or ws i d).object else contents (of_kind kind (oldest i (reverse ws))))
contents_of-next kind ws i d h =
    ap (λ (l : List Write). contents (of_kind kind l)) (oldest-replayed ws i d h)
    ∙ one_more kind (get_or ws i d) (oldest i (reverse ws)) (kind_eq (get_or ws i d).key.kind kind) refl

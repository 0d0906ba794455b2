-- How long values are.
use Rattle.std.proofs.Common.{◌≡◌, ℕ, ◌+◌, ◌/◌, ◌%◌, reverse, ◌∙◌, ap, subst, ◌≤◌, Bool, true, false, cond, ltb, List, [], ◌∷◌, ◌++◌, length, arith}
use Rattle.std.proofs.lemmas.List.{length-append}
use Rattle.std.proofs.lemmas.List.{reverse-append}
use Rattle.cmc_der.specs.Builders.{length_octets, value, Begun, held_octets, Closes}
use Rattle.cmc_der.specs.Integers.{trimmed, signed, integer_of}

short : (a b c d : Bool) (v w x y z : List ℕ) → length v ≤ 5 → length w ≤ 5 → length x ≤ 5 → length y ≤ 5 → length z ≤ 5 → length (cond a v (cond b w (cond c x (cond d y z)))) ≤ 5
short true b c d v w x y z e f g h i = e
short false true c d v w x y z e f g h i = f
short false false true d v w x y z e f g h i = g
short false false false true v w x y z e f g h i = h
short false false false false v w x y z e f g h i = i

length_short : (n : ℕ) → length (length_octets n) ≤ 5
unfolding length_octets
length_short n = short (ltb n 128) (ltb n 256) (ltb n 65536) (ltb n 16777216) (n ∷ []) (129 ∷ n ∷ []) (130 ∷ n / 256 ∷ n % 256 ∷ []) (131 ∷ n / 65536 ∷ n / 256 % 256 ∷ n % 256 ∷ []) (132 ∷ n / 16777216 ∷ n / 65536 % 256 ∷ n / 256 % 256 ∷ n % 256 ∷ []) (omega arith) (omega arith) (omega arith) (omega arith) (omega arith)

pub value_size : (tag : ℕ) (body : List ℕ) → length (value tag body) ≤ length body + 6
unfolding value
value_size tag body = omega (arith, length-append (length_octets (length body)) body, length_short (length body))

-- one value more is within the share of its call
pub added_fits : (tag : ℕ) (levels : List Begun) (octets body : List ℕ) (len share : ℕ) → length body ≤ share + 1 → held_octets levels + length octets ≤ len → held_octets levels + length (octets ++ value tag body) ≤ len + (share + 8)
added_fits tag levels octets body len share s h = omega (arith, length-append octets (value tag body), value_size tag body)

pub closed_fits : (levels after : List Begun) (body octets : List ℕ) (len : ℕ) → Closes levels after body octets → held_octets (reverse levels) + length body ≤ len → held_octets (reverse after) + length octets ≤ len
closed_fits levels after body octets len c h =
    let b = c.0 in
    let turned : reverse levels ≡ b ∷ reverse after = ap reverse (c.1) ∙ reverse-append after (b ∷ []) in
    let P : List Begun → Type 0 = λ l. held_octets l + length body ≤ len in
    let before : held_octets (b ∷ reverse after) + length body ≤ len = subst P turned h in
    rw (c.2) (omega (arith, before, length-append (b.1) (value b.0 body), value_size b.0 body))

pub trimmed_size : (bytes : List ℕ) → length (trimmed bytes) ≤ length bytes
trimmed_size [] = omega arith
trimmed_size (b ∷ bs) = elim (ltb 0 b) as (λ v. length (cond v (b ∷ bs) (trimmed bs)) ≤ length (b ∷ bs)) [ true ↦ omega arith | false ↦ omega (arith, trimmed_size bs) ]

signed_size : (bytes : List ℕ) → length (signed bytes) ≤ length bytes + 1
signed_size [] = omega arith
signed_size (b ∷ bs) = elim (ltb b 128) as (λ v. length (cond v (b ∷ bs) (0 ∷ (b ∷ bs))) ≤ length (b ∷ bs) + 1) [ true ↦ omega arith | false ↦ omega arith ]

pub integer_size : (bytes : List ℕ) → length (integer_of bytes) ≤ length bytes + 1
integer_size bytes = omega (arith, trimmed_size bytes, signed_size (trimmed bytes))

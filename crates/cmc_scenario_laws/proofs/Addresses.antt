-- The octets of an address that was read are printed as a text of the same address.
use lib.Utf8.{encode}
use Rattle.std.proofs.Common.{◌≡◌, ℕ, suc, ◌+◌, ◌-◌, ◌*◌, ◌/◌, ◌%◌, ◌^◌, ◌<◌, ◌==◌, inl, inr, Bool, true, false, List, [], ◌∷◌, length, get_or, All, Option, Some, None, Ok, refl, sym, ap, subst, ◌∙◌, codes, arith, length-append, zero}
use Rattle.std.specs.Prelude.{if◌then◌else◌, ◌++◌, replicate}
use Rattle.std.specs.Str.{bytes_eq, IsUtf8}
use Rattle.std.specs.Net.Addr.{octets_of, segments_of}
use Rattle.std.specs.Net.Grammar.{IsColonHex}
use Rattle.std.specs.Net.Reader.{read_ipv4, read_octet, read_number, read_ipv6, read_segments, read_segment}
use Rattle.std.specs.Net.Text.{dotted_text, hex_groups_text}
use Rattle.std.proofs.lemmas.Bool.{ne_eqb}
use Rattle.std.proofs.lemmas.List.{length-replicate}
use Rattle.std.proofs.lemmas.List.Elements.{All-weaker}
use Rattle.std.proofs.lemmas.List.Folds.{list_any_none}
use Rattle.std.proofs.lemmas.Option.{none-some}
use Rattle.std.proofs.lemmas.Slice.Eq.{bytes_eq-Decides}
use Rattle.std.proofs.lemmas.Str.{utf8_lossy-IsUtf8}
use Rattle.std.proofs.NetLemmas.Alphabet.{IsHexOrColon, All-hex_groups_text}
use Rattle.std.proofs.NetLemmas.Texts.{IsColonHex-hex_groups_text}
use Rattle.base64.specs.GeneralPurpose.{IsBytes}
use Rattle.serde_json.specs.Data.{Data}
use Rattle.cmc_x509_build.specs.Addresses.{IsAddress, has_dot, address_at}
use Rattle.cmc_x509_build.proofs.AddressLaws.{address_again, address_found}
use Rattle.cmc_cursor.specs.Readers.{found, text_at}
use Rattle.cmc_cursor.proofs.Always.{Always, so, failed, next}
use Rattle.cmc_material.specs.Approvers.{address_in, address_pattern_at}
use Rattle.cmc_scenario_print.specs.PolicyTrees.{address_text, address_tree}
use Rattle.cmc_scenario_laws.proofs.Members.{Again}

-- ---- octets and segments

octets_again : (n : ℕ) (xs : List ℕ) → length xs ≡ 2 * n → ((k : ℕ) → get_or xs k 0 < 256) → octets_of (segments_of xs) ≡ xs
octets_again n [] even small = refl
octets_again n (a ∷ []) even small = absurd (omega arith)
octets_again n (a ∷ b ∷ xs) even small =
    let low : b < 256 = small 1 in
    let high : (a * 256 + b) / 256 ≡ a = omega arith in
    let rest : (a * 256 + b) % 256 ≡ b = omega arith in
    λ i. high i ∷ rest i ∷ octets_again (n - 1) xs (omega arith) (λ k. small (suc (suc k))) i

half : (n : ℕ) (xs : List ℕ) → length xs ≡ 2 * n → length (segments_of xs) ≡ n
half n [] even = omega arith
half n (a ∷ []) even = absurd (omega arith)
half n (a ∷ b ∷ xs) even = omega (arith, half (n - 1) xs (omega arith))

twice : (xs : List ℕ) → length (octets_of xs) ≡ 2 * length xs
twice [] = refl
twice (s ∷ xs) = omega (arith, twice xs)

segments_fit : (xs : List ℕ) → ((k : ℕ) → get_or xs k 0 < 256) → (k : ℕ) → get_or (segments_of xs) k 0 < 2 ^ 16
segments_fit [] small k = omega arith
segments_fit (a ∷ []) small k = omega arith
segments_fit (a ∷ b ∷ xs) small zero =
    let high : a < 256 = small 0 in
    let low : b < 256 = small 1 in
    omega arith
segments_fit (a ∷ b ∷ xs) small (suc k) = segments_fit xs (λ j. small (suc (suc j))) k

eight_segments : (text segments : List ℕ) → IsColonHex text segments → length segments ≡ 8
eight_segments text segments (inl groups) = groups.1
eight_segments text segments (inr elided) =
    let zeros : List ℕ = replicate (8 - length elided.head - length elided.tail) 0 in
    omega (arith, ap length elided.value, elided.room, length-append (elided.head ++ zeros) elided.tail, length-append elided.head zeros, length-replicate {A = ℕ} (8 - length elided.head - length elided.tail) 0)

-- ---- texts

no_dot : (xs : List ℕ) → All IsHexOrColon xs → has_dot xs ≡ false
no_dot xs h = list_any_none (λ byte. byte == 46) xs (All-weaker IsHexOrColon (λ b. (b == 46) ≡ false) (λ b is. ne_eqb b 46 (λ e. grind arith)) xs h)

dotted : (a b c d : ℕ) → (a < 256) × (b < 256) × (c < 256) × (d < 256) → address_at (address_text (a ∷ b ∷ c ∷ d ∷ [])) ≡ Some (a ∷ b ∷ c ∷ d ∷ [])
dotted a b c d fit = address_again (dotted_text a b c d) (a ∷ b ∷ c ∷ d ∷ []) (inl (record { a = a; b = b; c = c; d = d; fit = fit; value = refl; spelled = refl }))

grouped : (octets : List ℕ) → length octets ≡ 16 → IsBytes octets → address_at (hex_groups_text (segments_of octets)) ≡ Some octets
grouped octets long small =
    let segments = segments_of octets in
    let fits = segments_fit octets small in
    address_again (hex_groups_text segments) octets
    (inr (segments, IsColonHex-hex_groups_text segments (half 8 octets long) fits, no_dot (hex_groups_text segments) (All-hex_groups_text segments fits), sym (octets_again 8 octets long small)))

-- what is printed of octets that some text writes is a text that writes them
written : (text octets : List ℕ) → IsAddress text octets → IsBytes octets → address_at (address_text octets) ≡ Some octets
written text octets (inl h) small = subst (λ (o : List ℕ). address_at (address_text o) ≡ Some o) (sym h.value) (dotted h.a h.b h.c h.d h.fit)
written text octets (inr h) small =
    let long : length octets ≡ 16 = omega (arith, ap length h.3, twice h.0, eight_segments text h.0 h.1) in
    rw (long) (grouped octets long small)

-- `*` is the text of no address
star_is_none : address_at (codes "*") ≡ None
unfolding address_at read_ipv4 read_octet read_number read_ipv6 read_segments read_segment
star_is_none = refl

not_star : (text octets : List ℕ) → address_at text ≡ Some octets → bytes_eq text (codes "*") ≡ false
not_star text octets h = by_test (bytes_eq text (codes "*")) refl
  where
    by_test : (b : Bool) → bytes_eq text (codes "*") ≡ b → b ≡ false
    by_test false e = refl
    by_test true e = absurd (none-some octets (sym star_is_none ∙ subst (λ (t : List ℕ). address_at t ≡ Some octets) ((bytes_eq-Decides text (codes "*")).0 e) h))

-- ---- patterns of addresses

abbrev pub IsAddressAgain : List ℕ → Type 0
IsAddressAgain = Again IsBytes address_pattern_at address_tree

star_is_text : IsUtf8 (codes "*")
unfolding encode
star_is_text = (42 ∷ [], (refl, refl))

star_again : address_pattern_at (address_tree (codes "*")) ≡ Ok (codes "*")
unfolding address_pattern_at
star_again = rw (utf8_lossy-IsUtf8 (codes "*") star_is_text) refl

octets_read : (octets : List ℕ) → address_at (address_text octets) ≡ Some octets → address_pattern_at (address_tree octets) ≡ Ok octets
unfolding address_pattern_at
octets_read octets h = rw (not_star (address_text octets) octets h, h) refl

address_so : (t : List ℕ) → Always IsAddressAgain (address_in t)
address_so t = by_test (bytes_eq t (codes "*")) refl
  where
    by_address : (o : Option (List ℕ)) → address_at t ≡ o → Always IsAddressAgain (found o)
    by_address None h = failed []
    by_address (Some octets) h = so (λ small. octets_read octets (written t octets (address_found t octets h) small))

    by_test : (b : Bool) → bytes_eq t (codes "*") ≡ b → Always IsAddressAgain (if b then Ok t else found (address_at t))
    by_test true e = so (λ small. subst (λ (x : List ℕ). address_pattern_at (address_tree x) ≡ Ok x) (sym ((bytes_eq-Decides t (codes "*")).0 e)) star_again)
    by_test false e = by_address (address_at t) refl

pub address_pattern_so : (d : Data) → Always IsAddressAgain (address_pattern_at d)
unfolding address_pattern_at
address_pattern_so d = next IsAddressAgain (text_at d) address_in address_so

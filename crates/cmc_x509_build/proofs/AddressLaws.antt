-- A text is read as the address that it writes, and no other text is read.
use Rattle.std.proofs.Common.{◌≡◌, ℕ, ◌==◌, inl, inr, Bool, true, false, cond, List, [], length, Option, Some, None, refl, sym, subst, ◌∙◌, lit≤, eqb-true, append-nil}
use Rattle.std.proofs.lemmas.List.{nil_from_length}
use Rattle.std.proofs.lemmas.Option.{none-some, same_Some}
use Rattle.std.proofs.NetLemmas.Ipv4.{read_ipv4_complete, read_ipv4_sound}
use Rattle.std.proofs.NetLemmas.Ipv6.{read_ipv6_complete, read_ipv6_sound, EndsGroups-nil, IsDotted-not_colon_hex}
use Rattle.std.specs.Net.Addr.{octets_of}
use Rattle.std.specs.Net.Grammar.{IsDotted, IsColonHex, IsIpv4Text, IsIpv6Text}
use Rattle.std.specs.Net.Reader.{Read, read_ipv4, read_ipv6, whole_value}
use Rattle.std.specs.declared.net.ipv4_addr.Ipv4Addr.{Ipv4Addr}
use Rattle.std.specs.declared.net.ipv6_addr.Ipv6Addr.{Ipv6Addr}
use Rattle.cmc_x509_build.specs.Addresses.{IsAddress, has_dot, octets_of_segments, or_ipv6, address_at}

-- what was read to the end
whole_some : (r : Read (List ℕ)) (x : List ℕ) → whole_value r ≡ Some x → r ≡ Some (x, [])
whole_some None x e = absurd (none-some x e)
whole_some (Some p) x e = go (length p.1 == 0) refl e
  where
    go : (t : Bool) → (length p.1 == 0) ≡ t → cond {A = Option (List ℕ)} t (Some p.0) None ≡ Some x → ◌≡◌ {A = Read (List ℕ)} (Some p) (Some (x, []))
    go false test e = absurd (none-some x e)
    go true test e =
        let value = same_Some p.0 x e in
        let end = nil_from_length p.1 (eqb-true _ _ test) in
        λ i. Some (value i, end i)

pub ipv4_again : (text octets : List ℕ) → IsDotted text octets → whole_value (read_ipv4 text) ≡ Some octets
ipv4_again text octets h =
    let read : read_ipv4 text ≡ Some (octets, []) = rw append-nil at (read_ipv4_complete text octets [] h (lit≤ tt)) in
    rw read

pub ipv4_found : (text octets : List ℕ) → whole_value (read_ipv4 text) ≡ Some octets → IsDotted text octets
ipv4_found text octets e =
    let sound = read_ipv4_sound text octets [] (whole_some (read_ipv4 text) octets e) in
    let same : text ≡ sound.0 = sound.1 ∙ append-nil sound.0 in
    subst (λ t. IsDotted t octets) (sym same) sound.2

pub ipv6_again : (text segments : List ℕ) → IsColonHex text segments → whole_value (read_ipv6 text) ≡ Some segments
ipv6_again text segments h =
    let read : read_ipv6 text ≡ Some (segments, []) = rw append-nil at (read_ipv6_complete text segments [] h EndsGroups-nil) in
    rw read

pub ipv6_found : (text segments : List ℕ) → whole_value (read_ipv6 text) ≡ Some segments → IsColonHex text segments
ipv6_found text segments e =
    let sound = read_ipv6_sound text segments [] (whole_some (read_ipv6 text) segments e) in
    let same : text ≡ sound.0 = sound.1 ∙ append-nil sound.0 in
    subst (λ t. IsColonHex t segments) (sym same) sound.2

none_from : (o : Option (List ℕ)) → ((x : List ℕ) → o ≡ Some x → ⊥) → o ≡ None
none_from None no_value = refl
none_from (Some x) no_value = absurd (no_value x refl)

pub ipv4_none : (text : List ℕ) → ((a : Ipv4Addr) → IsIpv4Text text a → ⊥) → whole_value (read_ipv4 text) ≡ None
ipv4_none text h = none_from _ λ octets e. h (record { octets = octets }) (ipv4_found text octets e)

pub ipv6_none : (text : List ℕ) → ((a : Ipv6Addr) → IsIpv6Text text a → ⊥) → whole_value (read_ipv6 text) ≡ None
ipv6_none text h = none_from _ λ segments e. h (record { segments = segments }) (ipv6_found text segments e)

-- no text writes addresses of both kinds
ipv6_is_no_ipv4 : (text segments : List ℕ) → IsColonHex text segments → whole_value (read_ipv4 text) ≡ None
ipv6_is_no_ipv4 text segments h = none_from _ λ octets e. IsDotted-not_colon_hex text octets segments (ipv4_found text octets e) h

pub address_again : (text octets : List ℕ) → IsAddress text octets → address_at text ≡ Some octets
unfolding address_at
address_again text octets (inl h) = rw (ipv4_again text octets h)
address_again text octets (inr h) = rw (ipv6_is_no_ipv4 text h.0 h.1, h.2, ipv6_again text h.0 h.1, h.3)

segments_some : (o : Option (List ℕ)) (octets : List ℕ) → octets_of_segments o ≡ Some octets → (segments : List ℕ) × (o ≡ Some segments) × (octets ≡ octets_of segments)
segments_some None octets e = absurd (none-some octets e)
segments_some (Some segments) octets e = (segments, refl, sym (same_Some _ _ e))

pub address_found : (text octets : List ℕ) → address_at text ≡ Some octets → IsAddress text octets
unfolding address_at
address_found text octets e = go (whole_value (read_ipv4 text)) refl (has_dot text) refl e
  where
    go : (o : Option (List ℕ)) → whole_value (read_ipv4 text) ≡ o → (t : Bool) → has_dot text ≡ t → or_ipv6 o text ≡ Some octets → IsAddress text octets
    go (Some x) read t dot e = inl (ipv4_found text octets (read ∙ e))
    go None read true dot e = absurd (none-some octets (sym (rw dot) ∙ e))
    go None read false dot e =
        let found = segments_some (whole_value (read_ipv6 text)) octets (rw dot at e) in
        inr (found.0, ipv6_found text found.0 found.1, dot, found.2)

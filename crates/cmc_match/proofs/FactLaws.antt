-- The flags say what they are to say.
use Rattle.std.proofs.Common.{◌≡◌, ℕ, ◌<◌, Bool, true, false, not, List, [], ◌∷◌, length, Option, Some, None, ◌⊎◌, inl, inr, refl, ap, arith}
use Rattle.std.specs.Prelude.{◌↔◌, IsTrue}
use Rattle.std.proofs.lemmas.Bool.{false≢true, and_from, and_parts}
use Rattle.std.proofs.lemmas.Slice.Eq.{bytes_eq-Decides}
use Rattle.std.proofs.lemmas.Option.{none-some, same_Some}
use Rattle.cmc_objects.specs.declared.issuer.IssuerRef.{IssuerRef}
use Rattle.cmc_objects.specs.declared.secret.Secret.{Secret}
use Rattle.cmc_objects.specs.declared.key_spec.KeySpec.{KeySpec}
use Rattle.cmc_objects.specs.declared.request.CertificateRequest.{CertificateRequest}
use Rattle.cmc_objects.specs.Defaults.{key_algorithm, key_size}
use Rattle.cmc_keys.proofs.KindLaws.{is_key_means}
use Rattle.cmc_match.specs.Marks.{is_text}
use Rattle.cmc_match.specs.Facts.{key_in, certificate_file_in, IsFilled, NamesIssuer, owner_text, NamesOwner, HasRequestedKey, is_non_empty, is_filled, names_issuer, is_absent_or, names_owner, is_requested, has_requested_key}
use Rattle.cmc_match.proofs.MatchLaws.{keys_match}

abbrev some : List ℕ → Option (List ℕ)
some text = Some text

text_found : (o : Option (List ℕ)) (text : List ℕ) → is_text o text ≡ true → o ≡ Some text
text_found None text h = absurd (false≢true h)
text_found (Some found) text h = ap some ((bytes_eq-Decides found text).0 h)

text_again : (o : Option (List ℕ)) (text : List ℕ) → o ≡ Some text → is_text o text ≡ true
text_again None text e = absurd (none-some text e)
text_again (Some found) text e = (bytes_eq-Decides found text).1 (same_Some found text e)

-- ---- filled

record IsGiven (o : Option (List ℕ)) : Type 0 where
  pub part : List ℕ
  pub stands : o ≡ Some part
  pub given : 0 < length part

given_found : (o : Option (List ℕ)) → is_non_empty o ≡ true → IsGiven o
given_found None h = absurd (false≢true h)
given_found (Some []) h = absurd (false≢true h)
given_found (Some (b ∷ bs)) h = record { part = b ∷ bs; stands = refl; given = omega arith }

given_again : (o : Option (List ℕ)) (part : List ℕ) → o ≡ Some part → 0 < length part → is_non_empty o ≡ true
given_again None part e h = absurd (none-some part e)
given_again (Some []) part e h = absurd (omega (arith, ap length (same_Some [] part e)))
given_again (Some (b ∷ bs)) part e h = refl

not_found : (b : Bool) → not b ≡ true → b ≡ true → ⊥
not_found true h k = false≢true h
not_found false h k = false≢true k

not_again : (b : Bool) → (b ≡ true → ⊥) → not b ≡ true
not_again true h = absurd (h refl)
not_again false h = refl

filled_found : (secret : Secret) → is_filled (Some secret) ≡ true → IsFilled secret
unfolding is_filled
filled_found secret h =
    let key = given_found (key_in secret) (and_parts _ _ h).0 in
    let rest = (and_parts _ _ h).1 in
    let certificate = given_found (certificate_file_in secret) (and_parts _ _ rest).0 in
    record {
      key = key.part;
      certificate = certificate.part;
      key_stands = key.stands;
      certificate_stands = certificate.stands;
      key_given = key.given;
      certificate_given = certificate.given;
      not_temporary = λ e. not_found _ (and_parts _ _ rest).1 (text_again _ _ e);
    }

filled_again : (secret : Secret) → IsFilled secret → is_filled (Some secret) ≡ true
unfolding is_filled
filled_again secret h =
    and_from _ _ (given_again (key_in secret) h.key h.key_stands h.key_given)
    (and_from _ _ (given_again (certificate_file_in secret) h.certificate h.certificate_stands h.certificate_given) (not_again _ (λ t. h.not_temporary (text_found _ _ t))))

pub filled : (secret : Secret) → IsTrue (is_filled (Some secret)) ↔ IsFilled secret
filled secret = (filled_found secret, filled_again secret)

-- ---- issuer and owner

pub issuer : (reference : IssuerRef) (secret : Secret) → IsTrue (names_issuer reference (Some secret)) ↔ NamesIssuer reference secret
unfolding names_issuer
issuer reference secret =
    (λ h. let rest = (and_parts _ _ h).1 in record { name = text_found _ _ (and_parts _ _ h).0; kind = text_found _ _ (and_parts _ _ rest).0; group = text_found _ _ (and_parts _ _ rest).1 }, λ h. and_from _ _ (text_again _ _ h.name) (and_from _ _ (text_again _ _ h.kind) (text_again _ _ h.group)))

absent_found : (o : Option (List ℕ)) (name : List ℕ) → is_absent_or o name ≡ true → (o ≡ None) ⊎ (o ≡ Some name)
absent_found None name h = inl refl
absent_found (Some text) name h = inr (ap some ((bytes_eq-Decides text name).0 h))

absent_again : (o : Option (List ℕ)) (name : List ℕ) → (o ≡ None) ⊎ (o ≡ Some name) → is_absent_or o name ≡ true
absent_again o name (inl e) = rw e refl
absent_again o name (inr e) = rw e ((bytes_eq-Decides name name).1 refl)

pub owner : (name : List ℕ) (secret : Secret) → IsTrue (names_owner name (Some secret)) ↔ NamesOwner name secret
unfolding names_owner
owner name secret = (absent_found (owner_text secret) name, absent_again (owner_text secret) name)

-- ---- the key that was asked for

requested_found : (spec : KeySpec) (secret : Secret) (request : CertificateRequest) (o : Option (List ℕ)) → key_in secret ≡ o → is_requested spec o (Some request) ≡ true → HasRequestedKey spec secret request
requested_found spec secret request None e h = absurd (false≢true h)
requested_found spec secret request (Some key) e h =
    record { key = key; key_stands = e; fits = (is_key_means (key_algorithm spec) (key_size spec) key).0 (and_parts _ _ h).0; requested = (keys_match request key).0 (and_parts _ _ h).1 }

requested_again : (spec : KeySpec) (secret : Secret) (request : CertificateRequest) → HasRequestedKey spec secret request → is_requested spec (key_in secret) (Some request) ≡ true
requested_again spec secret request h =
    rw (h.key_stands) (and_from _ _ ((is_key_means (key_algorithm spec) (key_size spec) h.key).1 h.fits) ((keys_match request h.key).1 h.requested))

pub requested : (spec : KeySpec) (secret : Secret) (request : CertificateRequest) → IsTrue (has_requested_key spec (Some secret) (Some request)) ↔ HasRequestedKey spec secret request
unfolding has_requested_key
requested spec secret request = (requested_found spec secret request (key_in secret) refl, requested_again spec secret request)

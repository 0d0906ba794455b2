-- The revision of a request is what its annotation writes, and is written as it is read.
use Rattle.std.proofs.Common.{◌≡◌, ℕ, ◌^◌, Option, Some, None, ◌∙◌, ◌<◌, ◌≤◌, List, [], ◌∷◌, false, length, refl, ap, sym, arith}
use Rattle.std.specs.Prelude.{IfSome, decimal, filter}
use Rattle.std.proofs.lemmas.Bool.{ne_eqb}
use Rattle.std.proofs.lemmas.Option.{none-some}
use Rattle.cmc_meta.specs.Decimals.{number_in}
use Rattle.cmc_meta.proofs.DecimalLaws.{number_written, number_again, number_low}
use Rattle.cmc_objects.specs.declared.request.CertificateRequest.{CertificateRequest}
use Rattle.cmc_match.specs.Revisions.{number_of, revision_text, revision_of, is_number, is_of_revision, only_of}

revision_found : (text : Option (List ℕ)) (n : ℕ) → number_of text ≡ Some n → text ≡ Some (decimal n)
revision_found None n h = absurd (none-some n h)
revision_found (Some text) n h = ap (λ (t : List ℕ). some_text t) (number_written text n h)
  where
    some_text : List ℕ → Option (List ℕ)
    some_text t = Some t

pub revision_written : (r : Option ℕ) (request : CertificateRequest) → r ≡ revision_of request → IfSome r (λ n. revision_text request ≡ Some (decimal n))
unfolding revision_of
revision_written None request e = tt
revision_written (Some n) request e = revision_found (revision_text request) n (sym e)

pub revision_read : (r : Option ℕ) (request : CertificateRequest) → r ≡ revision_of request → (n : ℕ) → n < 2 ^ 64 → revision_text request ≡ Some (decimal n) → r ≡ Some n
unfolding revision_of
revision_read r request e n h text = e ∙ ap number_of text ∙ number_again n h

-- ---- no text writes a number that no u64 is

number_small_of : (n : ℕ) (text : List ℕ) (read : Option ℕ) → 2 ^ 64 ≤ n → number_in text ≡ read → is_number n read ≡ false
number_small_of n text None high is = refl
number_small_of n text (Some m) high is = ne_eqb m n (omega (arith, number_low text m is, high))

number_small : (n : ℕ) (text : List ℕ) → 2 ^ 64 ≤ n → is_number n (number_in text) ≡ false
number_small n text high = number_small_of n text (number_in text) high refl

text_small : (n : ℕ) (text : Option (List ℕ)) → 2 ^ 64 ≤ n → is_number n (number_of text) ≡ false
text_small n None high = refl
text_small n (Some text) high = number_small n text high

none_of : (n : ℕ) (requests : List CertificateRequest) → 2 ^ 64 ≤ n → length (filter (λ request. is_of_revision n request) requests) ≡ 0
unfolding revision_of
none_of n [] high = refl
none_of n (r ∷ rs) high = rw (text_small n (revision_text r) high) (none_of n rs high)

pub nothing_above : (n : ℕ) (requests : List CertificateRequest) → 2 ^ 64 ≤ n → only_of n requests ≡ None
unfolding only_of
nothing_above n requests high = rw (none_of n requests high) refl

-- The search for the last request of the next revision.
use Rattle.std.proofs.Common.{◌≡◌, ℕ, Bool, true, false, List, ◌∷◌, Option, Some, refl, sym, ap, ◌∙◌, cond}
use Rattle.std.specs.Prelude.{if◌then◌else◌, filter, length, drop, slice_index_or, ◌+◌, ◌<◌, ◌≤◌}
use Rattle.std.specs.List.{last_or}
use Rattle.std.proofs.lemmas.List.{drop_more, drop_all}
use Rattle.cmc_objects.specs.declared.certificate.Certificate.{Certificate}
use Rattle.cmc_objects.specs.declared.request.CertificateRequest.{CertificateRequest}
use Rattle.cmc_rules.specs.NextRequests.{is_next}

more_kept : (b : Bool) (o : Option CertificateRequest) (r : CertificateRequest) (rest : List CertificateRequest) → last_or o (cond b (r ∷ rest) rest) ≡ last_or (if b then Some r else o) rest
more_kept true o r rest = refl
more_kept false o r rest = refl

-- one request more
pub one_more : (c : Certificate) (requests : List CertificateRequest) (i : ℕ) (r : CertificateRequest) (o next all : Option CertificateRequest) → i < length requests → r ≡ slice_index_or requests i r
    → next ≡ (if is_next c r then Some r else o) → last_or o (filter (is_next c) (drop i requests)) ≡ all → last_or next (filter (is_next c) (drop (i + 1) requests)) ≡ all
one_more c requests i r o next all left is next_is before =
    let here : drop i requests ≡ r ∷ drop (i + 1) requests = drop_more requests i r left ∙ ap (λ (q : CertificateRequest). q ∷ drop (i + 1) requests) (sym is) in
    ap (λ (p : Option CertificateRequest). last_or p (filter (is_next c) (drop (i + 1) requests))) next_is
    ∙ sym (more_kept (is_next c r) o r (filter (is_next c) (drop (i + 1) requests)))
    ∙ sym (ap (λ (l : List CertificateRequest). last_or o (filter (is_next c) l)) here)
    ∙ before

-- and none left
pub none_left : (c : Certificate) (requests : List CertificateRequest) (i : ℕ) (o all : Option CertificateRequest) → length requests ≤ i → last_or o (filter (is_next c) (drop i requests)) ≡ all → o ≡ all
none_left c requests i o all end before = sym (ap (λ (l : List CertificateRequest). last_or o (filter (is_next c) l)) (drop_all i requests end)) ∙ before

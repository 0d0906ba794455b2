-- What the table says where one request, or none, is for the next revision.
use Rattle.std.proofs.Common.{◌≡◌, ℕ, Bool, true, false, ◌&&◌, List, [], ◌∷◌, Some, None, filter, refl, ap, ◌∙◌, inl, inr}
use Rattle.std.specs.Prelude.{if◌then◌else◌, find}
use Rattle.std.proofs.lemmas.Bool.{cases_Bool}
use Rattle.cmc_x509.specs.ReadKeys.{key_file_at}
use Rattle.cmc_objects.specs.declared.certificate.Certificate.{Certificate}
use Rattle.cmc_objects.specs.declared.request.CertificateRequest.{CertificateRequest}
use Rattle.cmc_pass.specs.declared.pass.Act.{Act}
use Rattle.cmc_pass.specs.declared.pass.Act.TheVariants.{Nothing}
use Rattle.cmc_rules.specs.NextRequests.{is_next, next_requests}
use Rattle.cmc_rules.specs.RevisionManager.{delete_call}
use Rattle.cmc_rules.specs.RequestManager.{is_stale, stale_request, ask_with, by_count, by_stale}

found_among : (p q : CertificateRequest → Bool) (rs : List CertificateRequest) → find (λ r. p r && q r) rs ≡ find q (filter p rs)
found_among p q [] = refl
found_among p q (r ∷ rs) =
    elim (cases_Bool (p r)) [
      | inl here ↦ elim (cases_Bool (q r)) [
        | inl fits ↦ rw (here, fits) refl
        | inr not_fits ↦ rw (here, not_fits) (found_among p q rs)
      ]
      | inr not_here ↦ rw not_here (found_among p q rs)
    ]

by_found : (c : Certificate) (file : List ℕ) (requests next : List CertificateRequest) → next_requests c requests ≡ next
    → by_stale c file requests (stale_request c file requests) ≡ by_stale c file requests (find (is_stale c file) next)
by_found c file requests next is =
    ap (by_stale c file requests) (found_among (is_next c) (is_stale c file) requests ∙ ap (find (is_stale c file)) is)

pub none_next : (c : Certificate) (file : List ℕ) (requests : List CertificateRequest) → next_requests c requests ≡ [] → by_stale c file requests (stale_request c file requests) ≡ ask_with c file (key_file_at file)
none_next c file requests none = by_found c file requests [] none ∙ ap (by_count c file) none

-- what is done where this request alone is for the next revision
abbrev pub only_act : Certificate → List ℕ → CertificateRequest → Act
only_act c file r = if is_stale c file r then delete_call r else Nothing

pub one_next : (c : Certificate) (file : List ℕ) (requests : List CertificateRequest) (r : CertificateRequest) → next_requests c requests ≡ r ∷ []
    → by_stale c file requests (stale_request c file requests) ≡ only_act c file r
one_next c file requests r one = by_found c file requests (r ∷ []) one ∙ by (is_stale c file r)
  where
    by : (b : Bool) → by_stale c file requests (if b then Some r else None) ≡ (if b then delete_call r else Nothing)
    by true = refl
    by false = ap (by_count c file) one

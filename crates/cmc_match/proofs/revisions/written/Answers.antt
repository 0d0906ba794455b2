use Rattle.std.proofs.Common.{◌≡◌, ℕ, Bool, List, length, nat_lt, filter, sym, ap, ◌∙◌}
use Rattle.std.specs.Prelude.{find}
use Rattle.cmc_objects.specs.declared.request.CertificateRequest.{CertificateRequest}
use Rattle.cmc_match.specs.Revisions.{is_text_of, revision_text}
use Rattle.cmc_match.proofs.OnlyLaws.{find_passes, filter_passes, more_here}
use Rattle.cmc_match.proofs.revisions.written.Goals as goal

abbrev is_one : List ℕ → CertificateRequest → Bool
is_one digits r = is_text_of digits (revision_text r)

pub loop-request-preserved : goal.loop-request-preserved
loop-request-preserved c =
    let other : is_one c.args.digits.now c.in-Some.request.now ≡ _ = sym (ap (is_one c.args.digits.now) c.deref.ensures) ∙ sym c.is_written.ensures ∙ c.if-is_written.false in
    record {
      first = find_passes (is_one c.args.digits.now) c.in-Some.request.now c.in-Some.others.now other ∙ sym (ap (find (is_one c.args.digits.now)) c.in-Some.ensures.cases.0) ∙ c.loop-request.invariant.first;
      all = filter_passes (is_one c.args.digits.now) c.in-Some.request.now c.in-Some.others.now other ∙ sym (ap (filter (is_one c.args.digits.now)) c.in-Some.ensures.cases.0) ∙ c.loop-request.invariant.all;
    }

pub returns-then-is_written-clause-more : goal.returns-then-is_written-clause-more
returns-then-is_written-clause-more c =
    let here : is_one c.args.digits.now c.in-Some.request.now ≡ _ = sym (ap (is_one c.args.digits.now) c.deref.ensures) ∙ sym c.is_written.ensures ∙ c.if-is_written.true in
    c.is_any_written.ensures
    ∙ more_here (is_one c.args.digits.now) c.in-Some.request.now c.in-Some.others.now here
    ∙ sym (ap (λ (l : List CertificateRequest). nat_lt 1 (length (filter (is_one c.args.digits.now) l))) c.in-Some.ensures.cases.0)
    ∙ ap (λ (l : List CertificateRequest). nat_lt 1 (length l)) c.loop-request.invariant.all

use Rattle.std.proofs.Common.{ℕ, List, length, nat_lt, filter, ap, ◌∙◌}
use Rattle.std.specs.Prelude.{find}
use Rattle.cmc_objects.specs.declared.request.CertificateRequest.{CertificateRequest}
use Rattle.cmc_match.specs.Revisions.{is_text_of, revision_text}
use Rattle.cmc_match.proofs.OnlyLaws.{find_written, filter_written}
use Rattle.cmc_match.proofs.revisions.requests_for.Goals as goal

pub returns-clause-first : goal.returns-clause-first
returns-clause-first c =
    c.written.ensures.first
    ∙ ap (λ (digits : List ℕ). find (λ r. is_text_of digits (revision_text r)) c.args.requests.now) c.format.ensures.text
    ∙ find_written c.args.revision c.args.requests.now c.ranges.revision.fits

pub returns-clause-more : goal.returns-clause-more
returns-clause-more c =
    c.written.ensures.more
    ∙ ap (λ (digits : List ℕ). nat_lt 1 (length (filter (λ r. is_text_of digits (revision_text r)) c.args.requests.now))) c.format.ensures.text
    ∙ ap (λ (l : List CertificateRequest). nat_lt 1 (length l)) (filter_written c.args.revision c.args.requests.now c.ranges.revision.fits)

use Rattle.std.proofs.Common.{sym, ◌∙◌, reverse}
use Rattle.std.proofs.lemmas.Result.{IfOk-weaker}
use Rattle.cmc_meta.specs.declared.key.Kind.TheVariants as kinds
use Rattle.cmc_objects.specs.Informers.{kind_of_work}
use Rattle.cmc_caches.specs.Affected.{left_by}
use Rattle.cmc_caches.proofs.Naming.{named_as, work_on_requests}
use Rattle.cmc_caches.proofs.Seeing.{sees_owned, sees_worked}
use Rattle.cmc_caches.specs.Board.{shown_by}
use Rattle.cmc_caches.proofs.affected.by_requests.Goals as goal

pub returns-then-works_on_requests-clause-work : goal.returns-then-works_on_requests-clause-work
returns-then-works_on_requests-clause-work c =
    IfOk-weaker c.written_keys.result _ _
    (λ keys named. named_as kinds.CertificateRequest (kind_of_work c.args.role) (reverse c.args.writes.now) keys.items (work_on_requests c.args.role (sym c.works_on_requests.ensures ∙ c.if-works_on_requests.true)) named)
    c.written_keys.ensures.named

pub returns-then-works_on_requests-clause-sees : goal.returns-then-works_on_requests-clause-sees
returns-then-works_on_requests-clause-sees c =
    IfOk-weaker c.written_keys.result _ _
    (λ keys so secrets.
    sees_worked c.args.role (shown_by c.args.certificates.now) (left_by c.args.writes.now kinds.CertificateRequest c.args.from) (left_by c.args.writes.now kinds.CertificateRequest c.args.to) secrets keys.items (sym c.works_on_requests.ensures ∙ c.if-works_on_requests.true) so)
    c.written_keys.ensures.same

pub returns-clause-sees : goal.returns-clause-sees
returns-clause-sees c =
    IfOk-weaker c.by_owned_requests.result _ _
    (λ keys so secrets.
    sees_owned c.args.role (shown_by c.args.certificates.now) (left_by c.args.writes.now kinds.CertificateRequest c.args.from) (left_by c.args.writes.now kinds.CertificateRequest c.args.to) secrets keys.items (sym c.works_on_requests.ensures ∙ c.if-works_on_requests.false) so)
    c.by_owned_requests.ensures.sees

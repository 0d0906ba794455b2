use Rattle.std.proofs.Common.{sym, ◌∙◌, reverse}
use Rattle.std.proofs.lemmas.Result.{IfOk-weaker}
use Rattle.cmc_meta.specs.declared.key.Kind.TheVariants as kinds
use Rattle.cmc_objects.specs.Informers.{kind_of_work}
use Rattle.cmc_caches.specs.Affected.{left_by}
use Rattle.cmc_caches.proofs.Naming.{named_as, none_named, work_on_certificates}
use Rattle.cmc_caches.proofs.Seeing.{sees_certificates, sees_no_certificates}
use Rattle.cmc_caches.proofs.affected.by_certificates.Goals as goal

pub returns-then-works_on_requests-clause-work : goal.returns-then-works_on_requests-clause-work
returns-then-works_on_requests-clause-work c = none_named (kind_of_work c.args.role) (reverse c.args.writes.now) c.new.result.items c.new.ensures.items

pub returns-then-works_on_requests-clause-sees : goal.returns-then-works_on_requests-clause-sees
returns-then-works_on_requests-clause-sees c requests secrets =
    sees_no_certificates c.args.role (left_by c.args.writes.now kinds.Certificate c.args.from) (left_by c.args.writes.now kinds.Certificate c.args.to) requests secrets _ (sym c.works_on_requests.ensures ∙ c.if-works_on_requests.true)

pub returns-clause-work : goal.returns-clause-work
returns-clause-work c =
    IfOk-weaker c.written_keys.result _ _
    (λ keys named. named_as kinds.Certificate (kind_of_work c.args.role) (reverse c.args.writes.now) keys.items (work_on_certificates c.args.role (sym c.works_on_requests.ensures ∙ c.if-works_on_requests.false)) named)
    c.written_keys.ensures.named

pub returns-clause-sees : goal.returns-clause-sees
returns-clause-sees c =
    IfOk-weaker c.written_keys.result _ _
    (λ keys so requests secrets. sees_certificates c.args.role (left_by c.args.writes.now kinds.Certificate c.args.from) (left_by c.args.writes.now kinds.Certificate c.args.to) requests secrets keys.items so)
    c.written_keys.ensures.same

use Rattle.std.proofs.Common.{List, subst, sym}
use Rattle.cmc_objects.specs.declared.request.CertificateRequest.{CertificateRequest}
use Rattle.cmc_objects.specs.declared.secret.Secret.{Secret as SecretObject}
use Rattle.cmc_held.specs.OneRun.{VersionsTellAll}
use Rattle.cmc_held.proofs.OneRun.{certificates_tell, next_tell, owned_tell, requests_tell, secrets_tell}
use Rattle.cmc_held.proofs.one_run.same_seen.Goals as goal

pub same_certificate-requires : goal.same_certificate-requires
same_certificate-requires c = certificates_tell c.args.left.now c.args.right.now c.requires

pub same_secret-requires : goal.same_secret-requires
same_secret-requires c = secrets_tell c.args.left.now c.args.right.now c.requires

pub same_secrets-requires : goal.same_secrets-requires
same_secrets-requires c =
    subst (λ (l : List SecretObject). VersionsTellAll (λ (k : SecretObject). k.meta.version) l c.as_slice-then-same_secret.result.now) (sym c.as_slice.ensures)
    (subst (λ (r : List SecretObject). VersionsTellAll (λ (k : SecretObject). k.meta.version) c.args.left.now.next r) (sym c.as_slice-then-same_secret.ensures)
    (next_tell c.args.left.now c.args.right.now c.requires))

pub same_requests-requires : goal.same_requests-requires
same_requests-requires c =
    subst (λ (l : List CertificateRequest). VersionsTellAll (λ (q : CertificateRequest). q.meta.version) l c.as_slice-then-same_secrets-2.result.now) (sym c.as_slice-then-same_secrets.ensures)
    (subst (λ (r : List CertificateRequest). VersionsTellAll (λ (q : CertificateRequest). q.meta.version) c.args.left.now.requests r) (sym c.as_slice-then-same_secrets-2.ensures)
    (owned_tell c.args.left.now c.args.right.now c.requires))

pub same_request-requires : goal.same_request-requires
same_request-requires c = requests_tell c.args.left.now c.args.right.now c.requires

use Rattle.cmc_x509.proofs.CertificateLaws.{cert_answer_found, cert_answer_only, cert_answer_names, cert_answer_refused}
use Rattle.cmc_x509.proofs.certificates.read_cert.Goals as goal

pub returns-clause-found : goal.returns-clause-found
returns-clause-found c = cert_answer_found c.certificate.result c.args.input.now c.certificate.ensures

pub returns-clause-only : goal.returns-clause-only
returns-clause-only c = cert_answer_only c.certificate.result c.args.input.now c.certificate.ensures

pub returns-clause-names : goal.returns-clause-names
returns-clause-names c = cert_answer_names c.certificate.result c.args.input.now c.certificate.ensures

pub returns-clause-not_form : goal.returns-clause-not_form
returns-clause-not_form c = cert_answer_refused c.certificate.result c.args.input.now c.certificate.ensures

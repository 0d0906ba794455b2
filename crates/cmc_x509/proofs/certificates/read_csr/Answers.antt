use Rattle.cmc_x509.proofs.CertificateLaws.{csr_answer_found, csr_answer_only, csr_answer_names, csr_answer_refused}
use Rattle.cmc_x509.proofs.certificates.read_csr.Goals as goal

pub returns-clause-found : goal.returns-clause-found
returns-clause-found c = csr_answer_found c.request.result c.args.input.now c.request.ensures

pub returns-clause-only : goal.returns-clause-only
returns-clause-only c = csr_answer_only c.request.result c.args.input.now c.request.ensures

pub returns-clause-names : goal.returns-clause-names
returns-clause-names c = csr_answer_names c.request.result c.args.input.now c.request.ensures

pub returns-clause-not_form : goal.returns-clause-not_form
returns-clause-not_form c = csr_answer_refused c.request.result c.args.input.now c.request.ensures

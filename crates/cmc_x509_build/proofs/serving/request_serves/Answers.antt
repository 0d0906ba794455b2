use Rattle.cmc_x509_build.proofs.ServeLaws as laws
use Rattle.cmc_x509_build.proofs.serving.request_serves.Goals as goal

pub returns-clause-names : goal.returns-clause-names
returns-clause-names c octets fields h = (laws.request_serves octets fields h).0

pub returns-clause-key : goal.returns-clause-key
returns-clause-key c octets fields h = (laws.request_serves octets fields h).1

use Rattle.cmc_x509_build.proofs.ServeLaws as laws
use Rattle.cmc_x509_build.proofs.serving.key_file_serves.Goals as goal

pub returns : goal.returns
returns c octets key h = laws.key_file_serves octets key h

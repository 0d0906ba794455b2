use Rattle.cmc_rules.proofs.OwnSecrets.{own_secrets}
use Rattle.cmc_rules.proofs.laws.certificates_have_own_secrets.Goals as goal

pub returns : goal.returns
returns c = own_secrets

-- The laws of keys, of what is so of each reading.
use Rattle.cmc_meta.specs.declared.key.Key.{Key}
use Rattle.cmc_scenario_laws.specs.Keys.{IsCertificateReadAgain, IsKeyReadAgain}
use Rattle.cmc_scenario_laws.proofs.KeysAgain.{certificate_so, key_so}

pub key_again : (key : Key) → IsKeyReadAgain key
key_again key d read = (key_so d).each key read

pub certificate_again : (key : Key) → IsCertificateReadAgain key
certificate_again key d read = (certificate_so d).each key read

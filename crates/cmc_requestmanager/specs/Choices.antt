-- The act of what the controller chooses to do.
use Rattle.cmc_der.specs.Keys.{key_shown}
use Rattle.cmc_pass.specs.declared.pass.Act.{Act}
use Rattle.cmc_pass.specs.declared.pass.Act.TheVariants.{Nothing}
use Rattle.cmc_rules.specs.RevisionManager.{delete_call}
use Rattle.cmc_rules.specs.RequestManager.{ask_signature}
use Rattle.cmc_requestmanager.specs.declared.choices.Choice.{Choice}
use Rattle.cmc_requestmanager.specs.declared.choices.Choice.TheVariants as choices

abbrev pub request_act_of : Choice → Act
request_act_of choices.Nothing = Nothing
request_act_of (choices.Delete request) = delete_call request.now
request_act_of (choices.Ask certificate file key) = ask_signature certificate.now file.now (key_shown key)

-- The act of what the controller chooses to do for a Certificate.
use Rattle.std.specs.Prelude.{ℤ, Option}
use Rattle.cmc_objects.specs.declared.certificate.Certificate.{Certificate}
use Rattle.cmc_objects.specs.declared.secret.Secret.{Secret}
use Rattle.cmc_pass.specs.declared.pass.Act.{Act}
use Rattle.cmc_pass.specs.declared.pass.Act.TheVariants.{Nothing, Issue, Temporary}
use Rattle.cmc_rules.specs.Issuance.{failure, issue_plan, temporary_plan}
use Rattle.cmc_issuing.specs.declared.choices.Choice.{Choice}
use Rattle.cmc_issuing.specs.declared.choices.Choice.TheVariants as choices

abbrev pub issuing_act_of : ℤ → Certificate → Option Secret → Choice → Act
issuing_act_of moment c target choices.Nothing = Nothing
issuing_act_of moment c target (choices.Fail reason) = failure moment reason.now c
issuing_act_of moment c target (choices.Issue file request) = Issue (issue_plan moment c file.now request.now target)
issuing_act_of moment c target (choices.Temporary file stand_in) = Temporary (temporary_plan c file.now stand_in target)

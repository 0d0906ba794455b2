-- Which objects a summary counts.
use Rattle.std.specs.Prelude.{Bool, true, false, List, not}
use Rattle.cmc_meta.specs.declared.conditions.Condition.{Condition}
use Rattle.cmc_meta.specs.declared.conditions.ConditionKind.TheVariants.{Ready}
use Rattle.cmc_objects.specs.declared.object.Object.{Object}
use Rattle.cmc_objects.specs.Requests.{is_stated}
use Rattle.cmc_objects.specs.declared.object.Object.TheVariants.{Cert, Secret}

-- the condition Ready is True
abbrev pub says_ready : List Condition → Bool
says_ready conditions = is_stated Ready conditions

abbrev pub is_certificate : Object → Bool
is_certificate (Cert c) = true
is_certificate other = false

abbrev pub is_secret : Object → Bool
is_secret (Secret s) = true
is_secret other = false

-- a Certificate that is Ready, and one that is not
abbrev pub is_ready : Object → Bool
is_ready (Cert c) = says_ready c.status.conditions
is_ready other = false

abbrev pub is_waiting : Object → Bool
is_waiting (Cert c) = not (says_ready c.status.conditions)
is_waiting other = false

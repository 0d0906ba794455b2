-- The writes of a plan.
use Rattle.std.specs.Prelude.{Option, Some, None}
use Rattle.cmc_objects.specs.declared.call.Call.{Call}
use Rattle.cmc_pass.specs.declared.pass.Act.{Act}
use Rattle.cmc_pass.specs.declared.pass.Act.TheVariants.{Issue, Temporary}

-- the write of the Secret, where the act has one
abbrev pub secret_call_of : Act → Option Call
secret_call_of (Issue plan) = Some plan.secret
secret_call_of (Temporary plan) = Some plan.secret
secret_call_of other = None

-- and that of the status after it
abbrev pub status_call_of : Act → Option Call
status_call_of (Issue plan) = Some plan.status
status_call_of other = None

-- What holds of a pass while it is open, carried over the entries that change it.
use Rattle.std.proofs.Common.{◌==◌, ℕ, Option, Some, None, Bool, true, false}
use Rattle.std.specs.Prelude.{if◌then◌else◌, option_map, IfSome}
use Rattle.cmc_objects.specs.declared.role.Role.{Role}
use Rattle.cmc_objects.specs.declared.entry.Who.{Who}
use Rattle.cmc_objects.specs.declared.entry.Who.TheVariants.{User, Pass}
use Rattle.cmc_rules.specs.declared.progress.OpenPass.{OpenPass}
use Rattle.cmc_rules.specs.declared.progress.Stage.{Stage}
use Rattle.cmc_rules.specs.declared.progress.Stage.TheVariants.{Asked}
use Rattle.cmc_objects.specs.declared.orders.Order.{Order}
use Rattle.cmc_pass.specs.declared.value.Value.{Value}
use Rattle.cmc_model.specs.Histories.{role_eq}
use Rattle.cmc_rules.specs.Passes.{called, asking, given, gone_on, stage_given, unless_of, with_stage}

own_step : (P : OpenPass → Type 0) (own : Bool) (stage : OpenPass → Stage) (p : Option OpenPass) → ((q : OpenPass) → P q → P (with_stage (stage q) q)) → IfSome p P
    → IfSome (if own then option_map (λ (q : OpenPass). with_stage (stage q) q) p else p) P
own_step P true stage None keeps holds = tt
own_step P true stage (Some p) keeps holds = keeps p holds
own_step P false stage p keeps holds = holds

-- an entry of any pass, where the new stage keeps it
pub over_step : (P : OpenPass → Type 0) (n m : ℕ) (stage : OpenPass → Stage) (p : Option OpenPass) → ((q : OpenPass) → P q → P (with_stage (stage q) q)) → IfSome p P
    → IfSome (gone_on n m stage p) P
over_step P n m stage p keeps holds = own_step P (n == m) stage p keeps holds

pub over_call : (P : OpenPass → Type 0) (n : ℕ) (who : Who) (stage : OpenPass → Stage) (p : Option OpenPass) → ((q : OpenPass) → P q → P (with_stage (stage q) q)) → IfSome p P
    → IfSome (called n who stage p) P
over_call P n User stage p keeps holds = holds
over_call P n (Pass pass) stage p keeps holds = over_step P n pass stage p keeps holds

-- a question, and its value
pub over_ask : (P : OpenPass → Type 0) (n m : ℕ) (order : Order) (p : Option OpenPass) → ((q : OpenPass) → P q → P (with_stage (Asked order) q)) → IfSome p P
    → IfSome (asking n m order p) P
over_ask P n m order p keeps holds = over_step P n m (λ q. Asked order) p keeps holds

pub over_given : (P : OpenPass → Type 0) (n m : ℕ) (value : Value) (p : Option OpenPass) → ((q : OpenPass) → P q → P (with_stage (stage_given value q.stage) q)) → IfSome p P
    → IfSome (given n m value p) P
over_given P n m value p keeps holds = over_step P n m (λ q. stage_given value q.stage) p keeps holds

-- the begin of a pass of which it holds
pub over_begin : (P : OpenPass → Type 0) (own : Bool) (new : OpenPass) (p : Option OpenPass) → P new → IfSome p P → IfSome (if own then Some new else p) P
over_begin P true new p begins holds = begins
over_begin P false new p begins holds = holds

-- the end of a pass
pub over_end : (P : OpenPass → Type 0) (own : Bool) (p : Option OpenPass) → IfSome p P → IfSome (if own then None else p) P
over_end P true p holds = tt
over_end P false p holds = holds

-- the stop of a role
pub over_stop : (P : OpenPass → Type 0) (role : Role) (p : Option OpenPass) → IfSome p P → IfSome (unless_of role p) P
over_stop P role None holds = tt
over_stop P role (Some p) holds = over_end P (role_eq role p.role) (Some p) holds

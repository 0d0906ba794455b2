-- Passes: a pass is open from its Begin to its End, or to the stop of its role.
use Rattle.std.specs.Prelude.{◌≡◌, ℕ, ℤ, ◌+◌, ◌==◌, Bool, true, false, ◌&&◌, List, [], ◌∷◌, length, Option, Some, None, option_map, if◌then◌else◌}
use Rattle.cmc_match.specs.Marks.{is_temporary}
use Rattle.cmc_meta.specs.declared.key.Key.{Key}
use Rattle.cmc_meta.specs.declared.key.Kind.{Kind}
use Rattle.cmc_meta.specs.Keys.{key_eq}
use Rattle.cmc_objects.specs.declared.certificate.Certificate.{Certificate}
use Rattle.cmc_objects.specs.declared.object.Object.{Object}
use Rattle.cmc_objects.specs.declared.object.Object.TheVariants.{Cert, Request, Secret}
use Rattle.cmc_objects.specs.declared.call.Call.{Call}
use Rattle.cmc_objects.specs.declared.call.Call.TheVariants.{Create, Update}
use Rattle.cmc_objects.specs.declared.call.Reply.{Reply}
use Rattle.cmc_objects.specs.declared.call.Reply.TheVariants.{Ok, Unchanged, Found, Conflict, NotFound, AlreadyExists, Invalid, Unavailable}
use Rattle.cmc_objects.specs.declared.orders.Order.{Order}
use Rattle.cmc_objects.specs.declared.role.Role.{Role}
use Rattle.cmc_objects.specs.declared.entry.Who.{Who}
use Rattle.cmc_objects.specs.declared.entry.Who.TheVariants.{User, Pass}
use Rattle.cmc_objects.specs.declared.entry.Entry.{Entry}
use Rattle.cmc_objects.specs.declared.entry.Entry.TheVariants.{Call as Called, Begin, Ask, Made, Signed, Answered, Judged, End, Stop}
use Rattle.cmc_objects.specs.Objects.{version_of}
use Rattle.cmc_pass.specs.declared.pass.Views.{Views}
use Rattle.cmc_pass.specs.declared.pass.Act.{Act}
use Rattle.cmc_pass.specs.declared.pass.Act.TheVariants.{Temporary}
use Rattle.cmc_pass.specs.declared.value.Value.{Value}
use Rattle.cmc_pass.specs.declared.value.Value.TheVariants as values
use Rattle.cmc_rules.specs.declared.progress.Obstacle.TheVariants.{Failure, Newer}
use Rattle.cmc_rules.specs.declared.progress.Stage.{Stage}
use Rattle.cmc_rules.specs.declared.progress.Stage.TheVariants.{Fresh, Asked, Given, Read, Saved, Wrote, Refused, Barred}
use Rattle.cmc_rules.specs.declared.progress.OpenPass.{OpenPass}
use Rattle.cmc_model.specs.Replies.{key_of_call}
use Rattle.cmc_model.specs.Histories.{Setting, role_eq}
use Rattle.cmc_model.specs.Writes.{writes, last_under}
use Rattle.cmc_rules.specs.Views.{views}
use Rattle.cmc_rules.specs.Issuance.{issuing}

-- ---- how far a pass comes

-- the act is the plan of a temporary certificate
abbrev pub is_temporary_act : Act → Bool
is_temporary_act (Temporary plan) = true
is_temporary_act other = false

-- the call writes a Secret that is marked as temporary
abbrev pub is_temporary_secret : Object → Bool
is_temporary_secret (Cert c) = false
is_temporary_secret (Request r) = false
is_temporary_secret (Secret k) = is_temporary k

abbrev pub writes_temporary : Call → Bool
writes_temporary (Create object generate) = is_temporary_secret object
writes_temporary (Update object named) = is_temporary_secret object
writes_temporary other = false

-- the object that is read has the version of the Certificate that the pass saw
abbrev pub is_as_seen : Option Certificate → Object → Bool
is_as_seen None object = false
is_as_seen (Some c) object = version_of object == c.meta.version

-- A write that is served is the last one of a pass, but for the Secret of an issuance, which its status follows: after the live read
-- of the Certificate, and where the plan is not one of a temporary certificate.
abbrev pub stage_written : Bool → Stage → Stage
stage_written stand_in Read = if stand_in then Wrote else Saved
stage_written stand_in other = Wrote

abbrev pub stage_read : Bool → ℕ → Kind → ℕ → Stage
stage_read true entry kind version = Read
stage_read false entry kind version = Refused entry (Newer kind version)

-- what the reply in the entry of this number makes of a pass that had come to this stage, by the kind of the call's key and the last
-- write under it
abbrev pub stage_by : Option Certificate → Bool → Stage → ℕ → Kind → ℕ → Reply → Stage
stage_by c stand_in stage entry kind last (Ok version name) = stage_written stand_in stage
stage_by c stand_in stage entry kind last (Unchanged version) = stage_written stand_in stage
stage_by c stand_in stage entry kind last (Found object) = stage_read (is_as_seen c object) entry kind (version_of object)
stage_by c stand_in stage entry kind last (Conflict named have) = Refused entry (Newer kind have)
stage_by c stand_in stage entry kind last (NotFound at) = Refused entry (Newer kind last)
stage_by c stand_in stage entry kind last (AlreadyExists have) = Refused entry (Newer kind have)
stage_by c stand_in stage entry kind last (Invalid rule) = Barred
stage_by c stand_in stage entry kind last (Unavailable number) = Refused entry Failure

-- Entries are numbered from 1 in the order of time. Only passes of issuing read live, and their act looks at no desk.
abbrev pub stage_after : Setting → List Entry → Call → Reply → OpenPass → Stage
stage_after s h call reply p =
    stage_by p.seen.certificate (is_temporary_act (issuing p.seen p.since)) p.stage (length h + 1) (key_of_call call).kind (last_under (key_of_call call) (writes s h)) reply

-- a question that was asked has its value
abbrev pub stage_given : Value → Stage → Stage
stage_given value (Asked order) = Given order value
stage_given value other = other

-- ---- which passes are open

abbrev pub with_stage : Stage → OpenPass → OpenPass
with_stage stage p = record p { stage = stage }

-- an entry of the pass of number m takes the pass of number n on, if it is the same
abbrev pub gone_on : ℕ → ℕ → (OpenPass → Stage) → Option OpenPass → Option OpenPass
gone_on n m stage p = if n == m then option_map (λ (q : OpenPass). with_stage (stage q) q) p else p

abbrev pub called : ℕ → Who → (OpenPass → Stage) → Option OpenPass → Option OpenPass
called n User stage p = p
called n (Pass pass) stage p = gone_on n pass stage p

abbrev pub asking : ℕ → ℕ → Order → Option OpenPass → Option OpenPass
asking n m order p = gone_on n m (λ (q : OpenPass). Asked order) p

abbrev pub given : ℕ → ℕ → Value → Option OpenPass → Option OpenPass
given n m value p = gone_on n m (λ (q : OpenPass). stage_given value q.stage) p

abbrev pub unless_of : Role → Option OpenPass → Option OpenPass
unless_of role None = None
unless_of role (Some p) = if role_eq role p.role then None else Some p

abbrev pub new_pass : Role → Key → Views → ℤ → OpenPass
new_pass role key seen since = record { role = role; key = key; seen = seen; since = since; stage = Fresh }

abbrev pub pass_with : Setting → List Entry → ℕ → Option OpenPass → Entry → Option OpenPass
pass_with s h n p (Called who call reply) = called n who (stage_after s h call reply) p
pass_with s h n p (Begin pass role key at now) = if n == pass then Some (new_pass role key (views s h role key) now) else p
pass_with s h n p (Ask pass order) = asking n pass order p
pass_with s h n p (Made pass key) = given n pass (values.Made key) p
pass_with s h n p (Signed pass signature) = given n pass (values.Signed signature) p
pass_with s h n p (Answered pass answer) = given n pass (values.Answered answer) p
pass_with s h n p (Judged pass approved) = given n pass (values.Judged approved) p
pass_with s h n p (End pass cause) = if n == pass then None else p
pass_with s h n p (Stop role) = unless_of role p
pass_with s h n p other = p

-- the pass of this number, where it is open
abbrev pub open_pass : Setting → List Entry → ℕ → Option OpenPass
open_pass s [] n = None
open_pass s (e ∷ h) n = pass_with s h n (open_pass s h n) e

-- whether this is a pass of the role on the key
abbrev pub is_pass_of : Role → Key → Option OpenPass → Bool
is_pass_of role key None = false
is_pass_of role key (Some p) = role_eq p.role role && key_eq p.key key

-- the role has an open pass on the key
abbrev pub IsWorking : Setting → List Entry → Role → Key → Type 0
IsWorking s h role key = (n : ℕ) × (is_pass_of role key (open_pass s h n) ≡ true)

-- Runs by one hand in which no step of the script cuts in on a pass.
use Rattle.std.specs.Prelude.{◌≡◌, ℕ, Bool, true, false, ◌&&◌, List, [], ◌∷◌}
use Rattle.cmc_objects.specs.declared.call.Reply.{Reply}
use Rattle.cmc_objects.specs.declared.call.Reply.TheVariants.{Conflict, NotFound, AlreadyExists, Invalid}
use Rattle.cmc_objects.specs.declared.entry.Entry.{Entry}
use Rattle.cmc_objects.specs.declared.entry.Entry.TheVariants.{Call as Called, Begin}
use Rattle.cmc_objects.specs.declared.entry.Step.{Step}
use Rattle.cmc_objects.specs.declared.entry.Step.TheVariants as steps
use Rattle.cmc_objects.specs.declared.entry.Who.TheVariants.{Pass}
use Rattle.cmc_rules.specs.declared.progress.Stage.{Stage}
use Rattle.cmc_rules.specs.declared.progress.Stage.TheVariants.{Fresh, Asked, Given, Read}
use Rattle.cmc_safety.specs.Courses.{is_entry_of}

-- the step holds no informer, and does not wait for a count of writes
abbrev pub lets_be : Step → Bool
lets_be (steps.Hold role kind) = false
lets_be (steps.Until role kind writes) = false
lets_be other = true

-- no step of the script holds an informer or waits for a count of writes
abbrev pub is_calm : List Step → Bool
is_calm [] = true
is_calm (step ∷ script) = lets_be step && is_calm script

-- all entries since the begin of the pass are its own
abbrev pub RunsAlone : ℕ → List Entry → Type 0
RunsAlone n [] = ⊥
RunsAlone n (Begin pass role key at now ∷ h) = n ≡ pass
RunsAlone n (e ∷ h) = (is_entry_of n e ≡ true) × RunsAlone n h

-- a pass at this stage has written nothing
abbrev pub is_before_writes : Stage → Bool
is_before_writes Fresh = true
is_before_writes (Asked order) = true
is_before_writes (Given order value) = true
is_before_writes Read = true
is_before_writes other = false

-- the call was answered by what its pass saw, or the store failed
abbrev pub IsCalmReply : Reply → Type 0
IsCalmReply (Conflict named have) = ⊥
IsCalmReply (NotFound at) = ⊥
IsCalmReply (AlreadyExists have) = ⊥
IsCalmReply (Invalid rule) = ⊥
IsCalmReply other = Unit {0}

-- and so was each call of a pass
abbrev pub HasCalmReplies : List Entry → Type 0
HasCalmReplies [] = Unit {0}
HasCalmReplies (Called (Pass n) call reply ∷ h) = IsCalmReply reply × HasCalmReplies h
HasCalmReplies (e ∷ h) = HasCalmReplies h

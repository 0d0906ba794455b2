-- What the history says of each part that a world holds, all at once: a lemma on one entry names the parts that it changes alone.
use Rattle.std.proofs.Common.{◌≡◌, ◌<◌, None, List, ◌∷◌, length, arith}
use Rattle.cmc_objects.specs.declared.entry.Entry.{Entry}
use Rattle.cmc_model.specs.Histories.{Setting, moment, state}
use Rattle.cmc_model.specs.Writes.{writes}
use Rattle.cmc_rules.specs.Positions.{positions}
use Rattle.cmc_rules.specs.Origins.{origins}
use Rattle.cmc_rules.specs.Passes.{open_pass}
use Rattle.cmc_rules.specs.Memory.{past}
use Rattle.cmc_rules.specs.Scripts.{scripted}
use Rattle.cmc_rules.specs.Legality.{IsLegal, IsLegalEntry}
use Rattle.cmc_rules.specs.Causes.{IsCaused, IsCausedEntry}
use Rattle.cmc_rules.specs.UserSteps.{Follows, FollowsEntry, owed}
use Rattle.cmc_rules.specs.Runs.{IsPartOfRun, IsRun}
use Rattle.cmc_rules.specs.Desks.{asked}
use Rattle.cmc_held.specs.Questioned.{asks_key_at, asks_issuer_at}
use Rattle.cmc_safety.specs.Formed.{IsFormed}
use Rattle.cmc_kernel.specs.Kept.{first_desk, role_state, Holdings, IsHoldingsOf, IsKept}

-- what the history says of each part
abbrev pub said : Setting → List Entry → Holdings
said s h = record {
  faults = s.faults;
  state = state s h;
  log = writes s h;
  moment = moment s h;
  made = scripted h;
  role_state = role_state s h;
  told = λ r. positions h r;
  origins = origins s h;
  opened = open_pass s h;
  past = past s h;
  keys_asked = λ c. asked (asks_key_at c) h;
  answers_asked = λ c. asked (asks_issuer_at c) h;
  desk = first_desk s;
}

-- what is held is what the history says
pub are_said : (s : Setting) (h : List Entry) (w : Holdings) → IsHoldingsOf s h w → w ≡ said s h
are_said s h w k = λ i. record {
  faults = k.faults i;
  state = k.state i;
  log = k.log i;
  moment = k.moment i;
  made = k.made i;
  role_state = λ r. k.role_state r i;
  told = λ r. k.told r i;
  origins = k.origins i;
  opened = λ n. k.opened n i;
  past = λ r q. k.past r q i;
  keys_asked = λ c. k.keys_asked c i;
  answers_asked = λ c. k.answers_asked c i;
  desk = k.desk i;
}

-- and what is so is held
pub held_by : (s : Setting) (h : List Entry) (w : Holdings) → w ≡ said s h → IsPartOfRun s h → IsFormed s → IsHoldingsOf s h w
held_by s h w is run formed = record {
  faults = λ i. (is i).faults;
  state = λ i. (is i).state;
  log = λ i. (is i).log;
  moment = λ i. (is i).moment;
  made = λ i. (is i).made;
  role_state = λ r i. (is i).role_state r;
  told = λ r i. (is i).told r;
  origins = λ i. (is i).origins;
  opened = λ n i. (is i).opened n;
  past = λ r q i. (is i).past r q;
  keys_asked = λ c i. (is i).keys_asked c;
  answers_asked = λ c i. (is i).answers_asked c;
  desk = λ i. (is i).desk;
  run = run;
  formed = formed;
}

-- an entry that is legal, has its cause and follows the script goes on with it
pub run_on : (s : Setting) (h : List Entry) (e : Entry) → IsPartOfRun s h → IsLegalEntry s h e → IsCausedEntry s h e → FollowsEntry s h e → length h < s.events → IsPartOfRun s (e ∷ h)
unfolding IsLegal IsCaused Follows
run_on s h e run legal caused follows room = record { legal = (legal, run.legal); caused = (caused, run.caused); follows = (follows, run.follows); short = omega (arith, room) }

-- where nothing is owed to the script the history is one of a run
pub settled_run : (s : Setting) (h : List Entry) → IsPartOfRun s h → owed s h ≡ None → IsRun s h
settled_run s h part settled = record { legal = part.legal; caused = part.caused; follows = part.follows; short = part.short; settled = settled }

pub run_of : (s : Setting) (h : List Entry) (w : Holdings) → IsKept s h w → IsRun s h
run_of s h w k = settled_run s h k.held.run k.settled

-- Which histories are legal: each reply is the store's, roles are told as watches tell, and passes begin and go on only as they may.
use Rattle.std.specs.Prelude.{◌≡◌, ℕ, ◌+◌, ◌<◌, ◌≤◌, true, ℤ, List, [], ◌∷◌, Option, Some, None}
use Rattle.cmc_meta.specs.declared.key.Kind.{Kind}
use Rattle.cmc_objects.specs.declared.role.Role.{Role}
use Rattle.cmc_meta.specs.declared.key.Key.{Key}
use Rattle.cmc_objects.specs.declared.entry.Positions.{Positions}
use Rattle.cmc_objects.specs.declared.entry.Who.{Who}
use Rattle.cmc_objects.specs.declared.entry.Who.TheVariants.{User, Pass}
use Rattle.cmc_objects.specs.declared.entry.Entry.{Entry}
use Rattle.cmc_objects.specs.declared.entry.Entry.TheVariants.{Script, Call as Called, Deliver, List as Listed, Begin, Ask, Made, Signed, Answered, Judged, End, Stop, Start, Tick}
use Rattle.cmc_model.specs.declared.write.Write.{Write}
use Rattle.cmc_rules.specs.declared.progress.OpenPass.{OpenPass}
use Rattle.cmc_model.specs.Replies.{IsReply}
use Rattle.cmc_model.specs.Histories.{Setting, moment, state, accepted, runs}
use Rattle.cmc_model.specs.Writes.{writes, write_at, is_known}
use Rattle.cmc_objects.specs.Informers.{has_informer, kind_of_work}
use Rattle.cmc_rules.specs.Positions.{position, positions}
use Rattle.cmc_rules.specs.Origins.{begun}
use Rattle.cmc_rules.specs.Passes.{open_pass, IsWorking}

abbrev pub IsOfKind : Kind → Option Write → Type 0
IsOfKind kind None = ⊥
IsOfKind kind (Some w) = w.key.kind ≡ kind

-- A running role is told of an accepted write of a kind that it looks at, and of all before it. The watch reaches back to its position.
pub record IsDelivery (s : Setting) (h : List Entry) (role : Role) (kind : Kind) (to : ℕ) : Type 0 where
  pub running : runs s h role ≡ true
  pub informed : has_informer role kind ≡ true
  pub further : position h role kind < to
  pub written : IsOfKind kind (write_at to (writes s h))
  pub within : accepted s h ≤ position h role kind + s.window

-- Where the watch no longer reaches back to its position, it lists what exists.
pub record IsListing (s : Setting) (h : List Entry) (role : Role) (kind : Kind) (to : ℕ) : Type 0 where
  pub running : runs s h role ≡ true
  pub informed : has_informer role kind ≡ true
  pub beyond : position h role kind + s.window < accepted s h
  pub newest : to ≡ accepted s h

-- A pass of a running role begins on the key of an accepted write, of the kind that the role works on, and on no key that it works on already.
pub record IsBegin (s : Setting) (h : List Entry) (pass : ℕ) (role : Role) (key : Key) (at : Positions) (now : ℤ) : Type 0 where
  pub running : runs s h role ≡ true
  pub numbered : pass ≡ begun s h + 1
  pub work : key.kind ≡ kind_of_work role
  pub known : is_known key (writes s h) ≡ true
  pub free : IsWorking s h role key → ⊥
  pub told : at ≡ positions h role
  pub present : now ≡ moment s h

abbrev pub IsOpen : Option OpenPass → Type 0
IsOpen None = ⊥
IsOpen (Some p) = Unit {0}

-- users call at any time, a pass only while it is open
abbrev pub IsCaller : Setting → List Entry → Who → Type 0
IsCaller s h User = Unit {0}
IsCaller s h (Pass pass) = IsOpen (open_pass s h pass)

abbrev pub IsLegalEntry : Setting → List Entry → Entry → Type 0
IsLegalEntry s h (Script step) = Unit {0}
IsLegalEntry s h (Called who call reply) = IsReply s.faults (state s h) call reply × IsCaller s h who
IsLegalEntry s h (Deliver role kind to) = IsDelivery s h role kind to
IsLegalEntry s h (Listed role kind to) = IsListing s h role kind to
IsLegalEntry s h (Begin pass role key at now) = IsBegin s h pass role key at now
IsLegalEntry s h (Ask pass order) = IsOpen (open_pass s h pass)
IsLegalEntry s h (Made pass key) = IsOpen (open_pass s h pass)
IsLegalEntry s h (Signed pass signature) = IsOpen (open_pass s h pass)
IsLegalEntry s h (Answered pass answer) = IsOpen (open_pass s h pass)
IsLegalEntry s h (Judged pass approved) = IsOpen (open_pass s h pass)
IsLegalEntry s h (End pass cause) = IsOpen (open_pass s h pass)
IsLegalEntry s h (Stop role) = Unit {0}
IsLegalEntry s h (Start role at) = at ≤ accepted s h
IsLegalEntry s h (Tick now) = Unit {0}

unfoldable pub IsLegal : Setting → List Entry → Type 0
IsLegal s [] = Unit {0}
IsLegal s (e ∷ h) = IsLegalEntry s h e × IsLegal s h

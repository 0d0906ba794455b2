-- What views of one run have in common.
use Rattle.std.specs.Prelude.{◌≡◌, ℕ, List, Option, Some, IfSome}
use Rattle.cmc_objects.specs.declared.object.Object.{Object}
use Rattle.cmc_objects.specs.Objects.{version_of}
use Rattle.cmc_pass.specs.declared.pass.Views.{Views}
use Rattle.cmc_rules.specs.declared.progress.LastPass.{LastPass}
use Rattle.cmc_rules.specs.SeenObjects.{IsAmong, IsSeen}

-- no version was given twice: objects of one version are one object
abbrev pub AreOfOneRun : Views → Views → Type 0
AreOfOneRun a b = (o p : Object) → IsSeen a o → IsSeen b p → version_of o ≡ version_of p → o ≡ p

-- what the last pass saw, if there was one, and these views are of one run
abbrev pub IsOfOneRun : Option LastPass → Views → Type 0
IsOfOneRun last seen = IfSome last (λ l. AreOfOneRun l.seen seen)

-- the same of one part of both views, by the version of each
abbrev pub VersionsTell : {A : Type 0} → (A → ℕ) → Option A → Option A → Type 0
VersionsTell {A} version left right = (a b : A) → left ≡ Some a → right ≡ Some b → version a ≡ version b → a ≡ b

-- and of two lists
abbrev pub VersionsTellAll : {A : Type 0} → (A → ℕ) → List A → List A → Type 0
VersionsTellAll {A} version left right = (a b : A) → IsAmong a left → IsAmong b right → version a ≡ version b → a ≡ b

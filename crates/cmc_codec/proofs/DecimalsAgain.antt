-- A uid that is read is read again as it is written, and one that is written is read.
use Rattle.std.proofs.Common.{◌≡◌, ℕ, ◌^◌, ◌<◌, List, Bool, true, false, Option, Some, None, drop}
use Rattle.std.specs.List.{starts_with}
use Rattle.std.specs.Prelude.{codes, nat_eq, if◌then◌else◌}
use Rattle.std.proofs.lemmas.Option.{none-some}
use Rattle.cmc_meta.specs.Decimals.{number_in}
use Rattle.cmc_meta.proofs.DecimalLaws.{number_again, number_low}
use Rattle.cmc_codec.specs.MetadataForm.{uid_in}
use Rattle.cmc_print.specs.Words.{uid_text}

abbrev or_none : Bool → Option ℕ → Option ℕ
or_none b o = if b then o else None

with_mark : (b : Bool) (o : Option ℕ) (n : ℕ) → or_none b o ≡ Some n → o ≡ Some n
with_mark true o n h = h
with_mark false o n h = absurd (none-some n h)

pub uid_written : (n : ℕ) → n < 2 ^ 64 → uid_in (uid_text n) ≡ Some n
uid_written n h = number_again n h

pub uid_again : (t : List ℕ) (n : ℕ) → uid_in t ≡ Some n → uid_in (uid_text n) ≡ Some n
uid_again t n h = uid_written n (number_low (drop 4 t) n (with_mark (starts_with nat_eq t (codes "uid-")) (number_in (drop 4 t)) n h))

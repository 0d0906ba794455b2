-- Values of a certain form, and members that may be left out.
use Rattle.std.specs.Prelude.{ℕ, List, [], ◌∷◌, ◌+◌, decimal, if◌then◌else◌, Ok, Err, Some, None, is_some}
use Rattle.std.specs.declared.option.Option.{Option}
use Rattle.std.specs.Str.{bytes_eq}
use Rattle.serde_json.specs.Data.{Data, null, boolean, number, string, array, object, Items, no_items, item}
use Rattle.cmc_meta.specs.Wordings.{is_clean}
use Rattle.cmc_time.specs.DurationTexts.{duration_seconds}
use Rattle.cmc_x509_build.specs.Addresses.{address_at}
use Rattle.cmc_cursor.specs.Members.{Read, ◌>>=◌, under, Field, optional_at, required_at}
use Rattle.cmc_cursor.specs.Readers.{found, text_at, printable_at}
use Rattle.cmc_codec.specs.declared.given.Wording.{Wording}
use Rattle.cmc_codec.specs.declared.given.Wording.TheVariants.{Any, Printable, Address}

-- ---- values

-- A text that writes an IP address.
abbrev pub address_text_at : Data → Read (List ℕ)
address_text_at d = text_at d >>= (λ t. if is_some (address_at t) then Ok t else Err [])

-- A text of the wording: any, 1 to 253 printable characters of ASCII, or an IP address.
abbrev pub worded_at : Wording → Data → Read (List ℕ)
worded_at Any d = text_at d
worded_at Printable d = printable_at d
worded_at Address d = address_text_at d

-- The texts of a list whose first item is at place n.
abbrev pub list_from : Wording → ℕ → Items → Read (List (List ℕ))
list_from wording n no_items = Ok []
list_from wording n (item d ds) = under (decimal n) (worded_at wording d) >>= (λ t. list_from wording (n + 1) ds >>= (λ ts. Ok (t ∷ ts)))

abbrev pub text_list_at : Wording → Data → Read (List (List ℕ))
text_list_at wording (array ds) = list_from wording 0 ds
text_list_at wording null = Err []
text_list_at wording (boolean b) = Err []
text_list_at wording (number n) = Err []
text_list_at wording (string s) = Err []
text_list_at wording (object ms) = Err []

-- A text without a control character.
abbrev pub clean_text_at : Data → Read (List ℕ)
clean_text_at d = text_at d >>= (λ t. if is_clean t then Ok t else Err [])

-- A duration as Go's time.Duration is written, in seconds.
abbrev pub duration_at : Data → Read ℕ
duration_at d = text_at d >>= (λ t. found (duration_seconds t))

-- One of two words, each with what it stands for.
abbrev pub choice_at : {A : Type 0} → List ℕ → A → List ℕ → A → Data → Read A
choice_at first one second other d = text_at d >>= (λ t. if bytes_eq t first then Ok one else (if bytes_eq t second then Ok other else Err []))

-- ---- members

-- What a member that may be left out holds, read in this way.
abbrev pub given_at : {A : Type 0} → (Data → Read A) → List ℕ → Option Data → Read (Option A)
given_at read name None = Ok None
given_at read name (Some d) = under name (read d) >>= (λ x. Ok (Some x))

-- The same, where a member that is left out counts as something.
abbrev pub given_or : {A : Type 0} → A → (Data → Read A) → List ℕ → Option Data → Read A
given_or absent read name None = Ok absent
given_or absent read name (Some d) = under name (read d)

-- The member of that name read in this way, where it comes next, and the members that are left.
abbrev pub member_at : {A : Type 0} → (Data → Read A) → List ℕ → List Field → Read (Option A × List Field)
member_at read name fs = optional_at name fs >>= (λ p. given_at read name p.0 >>= (λ x. Ok (x, p.1)))

abbrev pub next_member_or : {A : Type 0} → A → (Data → Read A) → List ℕ → List Field → Read (A × List Field)
next_member_or absent read name fs = optional_at name fs >>= (λ p. given_or absent read name p.0 >>= (λ x. Ok (x, p.1)))

-- The same of a member that has to be there.
abbrev pub needed_at : {A : Type 0} → (Data → Read A) → List ℕ → List Field → Read (A × List Field)
needed_at read name fs = required_at name fs >>= (λ p. under name (read p.0) >>= (λ x. Ok (x, p.1)))

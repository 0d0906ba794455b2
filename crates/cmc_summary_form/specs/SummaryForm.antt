-- The form of the summary line that is read: the counts, and what Certificates wait for, in order of key, each once.
use Rattle.std.specs.Prelude.{◌≡◌, ℕ, map, List, [], ◌∷◌, ◌+◌, ◌-◌, length, option_map, codes, decimal, Bool, true, if◌then◌else◌, Ok, Err, Some, None}
use Rattle.std.specs.declared.option.Option.{Option}
use Rattle.std.specs.List.{AllByRecursion, slice_get}
use Rattle.std.specs.List.Sorted.{IsStrictlySortedBy}
use Rattle.std.specs.Ordering.{is_lt}
use Rattle.std.specs.Str.{bytes_eq}
use Rattle.serde_json.specs.Data.{Data, null, boolean, number, string, array, object, Items, no_items, item}
use Rattle.cmc_meta.specs.Keys.{key_cmp}
use Rattle.cmc_meta.specs.Names.{is_subdomain}
use Rattle.cmc_meta.specs.declared.key.Kind.{Kind}
use Rattle.cmc_meta.specs.declared.key.Kind.TheVariants.{Certificate}
use Rattle.cmc_meta.specs.declared.key.Key.{Key}
use Rattle.cmc_summary.specs.declared.summary.Summary.{Summary}
use Rattle.cmc_summary.specs.declared.summary.Waiting.{Waiting}
use Rattle.cmc_summary.specs.declared.summary.WaitName.{WaitName}
use Rattle.cmc_summary.specs.declared.summary.WaitName.TheVariants.{Stopped, Backoff, Key as NoKey, Unapproved, Name, Pending}
use Rattle.cmc_cursor.specs.Members.{Read, ◌>>=◌, under, Field, fields_at, at_end}
use Rattle.cmc_cursor.specs.Readers.{found, text_at, count_at}
use Rattle.cmc_codec.specs.Given.{needed_at}
use Rattle.cmc_material.specs.MaterialRows.{certificate_key_at}

-- ---- what Certificates wait for

abbrev pub wait_named : List ℕ → Option WaitName
wait_named t = if bytes_eq t (codes "stopped") then Some Stopped
    else (if bytes_eq t (codes "backoff") then Some Backoff
    else (if bytes_eq t (codes "key") then Some NoKey
    else (if bytes_eq t (codes "unapproved") then Some Unapproved
    else (if bytes_eq t (codes "name") then Some Name
    else (if bytes_eq t (codes "pending") then Some Pending else None)))))

unfoldable pub wait_read_at : Data → Read WaitName
wait_read_at d = text_at d >>= (λ t. found (wait_named t))

-- A Certificate and what it waits for: both members have to be there, and no other.
unfoldable pub waiting_in : List Field → Read Waiting
waiting_in fs = do
  certificate ← needed_at certificate_key_at (codes "certificate") fs
  wait ← needed_at wait_read_at (codes "wait") certificate.1
  end ← at_end wait.1
  Ok (record { certificate = certificate.0; wait = wait.0 })

unfoldable pub waiting_at : Data → Read Waiting
waiting_at d = fields_at d >>= waiting_in

-- The key comes after the last one, if there is one.
abbrev pub comes_after : Option Key → Key → Bool
comes_after None key = true
comes_after (Some last) key = is_lt (key_cmp last key)

abbrev pub after_key : Option Key → Waiting → Read Waiting
after_key last w = if comes_after last w.certificate then Ok w else Err []

abbrev pub next_waiting_at : Option Key → Data → Read Waiting
next_waiting_at last d = waiting_at d >>= after_key last

-- The items of a list whose places count from n, each of a key after the one before it.
abbrev pub waits_from : ℕ → Option Key → Items → Read (List Waiting)
waits_from n last no_items = Ok []
waits_from n last (item d ds) = under (decimal n) (next_waiting_at last d) >>= (λ w. waits_from (n + 1) (Some w.certificate) ds >>= (λ ws. Ok (w ∷ ws)))

abbrev pub all_waits : Items → Read (List Waiting)
all_waits ds = waits_from 0 None ds

abbrev pub waits_at : Data → Read (List Waiting)
waits_at (array ds) = all_waits ds
waits_at null = Err []
waits_at (boolean b) = Err []
waits_at (number n) = Err []
waits_at (string s) = Err []
waits_at (object ms) = Err []

-- The key of the last of those that were read.
abbrev pub last_key : List Waiting → Option Key
last_key ws = option_map (λ w. w.certificate) (slice_get ws (length ws - 1))

-- ---- the summary

unfoldable pub counts_in : List Field → Read Summary
counts_in fs = do
  certificates ← needed_at count_at (codes "certificates") fs
  ready ← needed_at count_at (codes "ready") certificates.1
  secrets ← needed_at count_at (codes "secrets") ready.1
  waiting ← needed_at waits_at (codes "waiting") secrets.1
  end ← at_end waiting.1
  Ok (record { certificates = certificates.0; ready = ready.0; secrets = secrets.0; waiting = waiting.0 })

unfoldable pub counts_at : Data → Read Summary
counts_at d = fields_at d >>= counts_in

unfoldable pub summary_in : List Field → Read Summary
summary_in fs = do
  counts ← needed_at counts_at (codes "summary") fs
  end ← at_end counts.1
  Ok counts.0

unfoldable pub summary_read_at : Data → Read Summary
summary_read_at d = fields_at d >>= summary_in

-- ---- summaries that have lines of this form

abbrev pub HasNames : Key → Type 0
HasNames key = (is_subdomain key.namespace ≡ true) × (is_subdomain key.name ≡ true)

-- A key that is printed without its kind.
abbrev pub IsKeyOfKind : Kind → Key → Type 0
IsKeyOfKind kind key = (key.kind ≡ kind) × HasNames key

abbrev pub NamesCertificate : Waiting → Type 0
NamesCertificate w = IsKeyOfKind Certificate w.certificate

-- The waits are those of Certificates, in order of key, each once.
pub record HasSummaryForm (s : Summary) : Type 0 where
  pub order : IsStrictlySortedBy key_cmp (map (λ w. w.certificate) s.waiting)
  pub keys : AllByRecursion NamesCertificate s.waiting

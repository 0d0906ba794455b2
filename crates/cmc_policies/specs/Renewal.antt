-- When a certificate is renewed, and how long a failed issuance waits for the next try.
use Rattle.std.specs.Prelude.{ℕ, ◌+◌, ◌-◌, ◌*◌, ◌/◌, ◌^◌, min, nat_lt, ◌&&◌, if◌then◌else◌, Option, Some, None, ℤ, pos, neg_ℤ, ◌+ℤ◌, ◌-ℤ◌, ◌≤ℤ◌, unsigned_abs}
use Rattle.cmc_policies.specs.declared.renewal.Renew.{Renew}
use Rattle.cmc_policies.specs.declared.renewal.Renew.TheVariants.{Default, Before, Percent}

-- how a specification has its certificate renewed: by a percentage, by a duration, or as it says nothing
abbrev pub renew_by : Option ℕ → Option ℕ → Renew
renew_by (Some part) before = Percent part
renew_by None (Some seconds) = Before seconds
renew_by None None = Default

-- from 1950-01-01T00:00:00Z to 9999-12-31T23:59:59Z
abbrev pub IsCertificateTime : ℤ → Type 0
IsCertificateTime at = (neg_ℤ (pos 631_152_000) ≤ℤ at) × (at ≤ℤ pos 253_402_300_799)

-- the seconds of a certificate's validity
abbrev pub lifetime : ℤ → ℤ → ℕ
lifetime not_before not_after = unsigned_abs (not_after -ℤ not_before)

-- a third of a lifetime, rounded up
abbrev pub third : ℕ → ℕ
third lasts = (lasts + 2) / 3

-- how long before the end of a lifetime the renewal begins: so many seconds as asked, where that is above nothing
-- and below the lifetime; that percentage of it, from 1 to 99, rounded up; and else a third of it
abbrev pub lead : ℕ → Renew → ℕ
lead lasts Default = third lasts
lead lasts (Before seconds) = if nat_lt 0 seconds && nat_lt seconds lasts then seconds else third lasts
lead lasts (Percent part) = if nat_lt 0 part && nat_lt part 100 then (part * lasts + 99) / 100 else third lasts

-- the moment from which the certificate is to be renewed
abbrev pub renewal : ℤ → ℤ → Renew → ℤ
renewal not_before not_after renew = not_after -ℤ pos (lead (lifetime not_before not_after) renew)

-- the hours to wait after so many failed attempts: one, doubled for each attempt after the first, to 32 at most
abbrev pub backoff_hours : Option ℕ → ℕ
backoff_hours None = 1
backoff_hours (Some attempts) = 2 ^ min (attempts - 1) 5

-- the moment up to which nothing is tried again
abbrev pub backoff : ℤ → Option ℕ → ℤ
backoff last attempts = last +ℤ pos (backoff_hours attempts * 3600)

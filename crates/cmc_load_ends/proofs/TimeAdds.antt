-- As time goes on the measure of all Certificates rises by 14 for each, and by one for each request that they own, at most.
use Rattle.std.proofs.Common.{ℕ, ℤ, ◌+◌, ◌*◌, ◌≤◌, List, length}
use Rattle.cmc_meta.specs.declared.key.Key.{Key}
use Rattle.cmc_model.specs.Objects.{Objects}
use Rattle.cmc_pass.specs.declared.pass.Desk.{Desk}
use Rattle.cmc_load_laws.specs.Frame.{seen_of}
use Rattle.cmc_load_laws.specs.Measure.{measure}
use Rattle.cmc_load_laws.specs.Totals.{total_measure}
use Rattle.cmc_load_ends.specs.LoadWrites.{owned_requests}
use Rattle.cmc_load_ends.proofs.KeyTotals.{total_each}
use Rattle.cmc_load_ends.proofs.PartsRise.{measure_later}

pub time_adds : (desk : Desk) (due : ℕ) (now later : ℤ) (keys : List Key) (m : Objects) → total_measure desk due later keys m ≤ total_measure desk due now keys m + (14 * length keys + owned_requests keys m)
time_adds desk due now later keys m =
    total_each (λ key. measure desk due now (seen_of m key)) (λ key. measure desk due later (seen_of m key)) (λ key. length (seen_of m key).requests) 14 keys (λ key. measure_later desk due now later (seen_of m key))

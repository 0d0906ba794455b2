-- In stores of a load the measure of all Certificates falls where that of one falls.
use Rattle.std.proofs.Common.{◌≡◌, ◌<◌, ℕ, ℤ, true, List, Option}
use Rattle.std.specs.BTreeMap.{is_at}
use Rattle.std.specs.List.{list_any}
use Rattle.cmc_meta.specs.declared.key.Key.{Key}
use Rattle.cmc_meta.specs.Keys.{key_cmp}
use Rattle.cmc_objects.specs.declared.object.Object.{Object}
use Rattle.cmc_model.specs.Objects.{Objects}
use Rattle.cmc_model.specs.Replies.{put_at}
use Rattle.cmc_pass.specs.declared.pass.Desk.{Desk}
use Rattle.cmc_run_laws.specs.Lengths.{Each}
use Rattle.cmc_load_laws.specs.Measure.{measure}
use Rattle.cmc_load_laws.specs.Frame.{seen_of}
use Rattle.cmc_load_laws.specs.Totals.{HasCertificate, total_measure}
use Rattle.cmc_load_laws.specs.Belonging.{IsParted, IsWriteFor}
use Rattle.cmc_load_laws.proofs.Totals.{total_measure_falls}
use Rattle.cmc_load_laws.proofs.Belonging.{is_elsewhere}

pub load_falls : (desk : Desk) (due : ℕ) (now : ℤ) (keys : List Key) (m : Objects) (own key : Key) (new : Option Object) → Each (HasCertificate m) keys → list_any (is_at (key_cmp own)) keys ≡ true
    → IsParted m → IsParted (put_at m key new) → IsWriteFor own key m new (put_at m key new) → measure desk due now (seen_of (put_at m key new) own) < measure desk due now (seen_of m own)
    → total_measure desk due now keys (put_at m key new) < total_measure desk due now keys m
load_falls desk due now keys m own key new are among parted later write falls =
    total_measure_falls desk due now keys m own key new are among (λ other has off. is_elsewhere own key other m new parted later write has.0 has.1 off) falls

-- The measure of all Certificates of a load.
use Rattle.std.specs.Prelude.{ℕ, ℤ, ◌+◌, List, [], ◌∷◌, ◌≡◌, Some}
use Rattle.cmc_meta.specs.declared.key.Key.{Key}
use Rattle.cmc_model.specs.Objects.{Objects}
use Rattle.cmc_objects.specs.declared.certificate.Certificate.{Certificate}
use Rattle.cmc_pass.specs.declared.pass.Desk.{Desk}
use Rattle.cmc_rules.specs.Views.{certificate_at}
use Rattle.cmc_load_laws.specs.Measure.{measure}
use Rattle.cmc_load_laws.specs.Frame.{seen_of}

-- there is a Certificate under the key
abbrev pub HasCertificate : Objects → Key → Type 0
HasCertificate m key = (c : Certificate) × (certificate_at m key ≡ Some c)

abbrev pub total : (Key → ℕ) → List Key → ℕ
total f [] = 0
total f (key ∷ keys) = f key + total f keys

-- what the roles still have to write for the Certificates under these keys
abbrev pub total_measure : Desk → ℕ → ℤ → List Key → Objects → ℕ
total_measure desk due now keys m = total (λ key. measure desk due now (seen_of m key)) keys

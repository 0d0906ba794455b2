-- What the roles of a load have left to write for a Certificate, after the history.
use Rattle.std.specs.Prelude.{ℕ, List, []}
use Rattle.cmc_meta.specs.declared.key.Key.{Key}
use Rattle.cmc_objects.specs.declared.orders.Rules.{Rules}
use Rattle.cmc_objects.specs.declared.entry.Entry.{Entry}
use Rattle.cmc_objects.specs.declared.request.CertificateRequest.{CertificateRequest}
use Rattle.cmc_model.specs.Histories.{Setting, moment, objects}
use Rattle.cmc_pass.specs.declared.pass.Desk.{Desk}
use Rattle.cmc_pass.specs.declared.pass.Views.{Views}
use Rattle.std.specs.Prelude.{Some, None}
use Rattle.cmc_load_laws.specs.Measure.{measure}
use Rattle.cmc_load_laws.specs.Frame.{seen_of}

-- a desk with these rules, of a scenario that says nothing of keys and issuers
abbrev pub desk_with : Rules → Desk
desk_with rules = record { material = []; asked = 0; rules = rules }

-- what a role of requests sees
abbrev pub request_alone : CertificateRequest → Views
request_alone r = record { certificate = None; secret = None; next = []; requests = []; request = Some r }

-- the measure of the Certificate under the key, in a scenario that says nothing of issuers
abbrev pub left_to_write : Setting → List Entry → Key → ℕ
left_to_write s h key = measure (desk_with s.rules) 0 (moment s h) (seen_of (objects s h) key)

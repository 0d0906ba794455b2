-- What a role decides by beside its views.
use Rattle.std.specs.Prelude.{ℕ, ◌+◌, Bool, false, ◌&&◌, List, [], ◌∷◌, codes, Option, Some, None, unwrap_or, if◌then◌else◌}
use Rattle.std.specs.Str.{bytes_eq}
use Rattle.cmc_meta.specs.PairLists.{text_by_key}
use Rattle.cmc_objects.specs.declared.certificate.Certificate.{Certificate}
use Rattle.cmc_objects.specs.declared.request.CertificateRequest.{CertificateRequest}
use Rattle.cmc_objects.specs.declared.orders.Order.{Order}
use Rattle.cmc_objects.specs.declared.orders.Order.TheVariants.{Key as KeyOrder, Csr, Sign, Judge}
use Rattle.cmc_objects.specs.declared.role.Role.{Role}
use Rattle.cmc_objects.specs.declared.role.Role.TheVariants.{Trigger, KeyManager, RequestManager, Approver, Issuer, Issuing, Readiness, Revision}
use Rattle.cmc_objects.specs.declared.entry.Entry.{Entry}
use Rattle.cmc_objects.specs.declared.entry.Entry.TheVariants.{Ask}
use Rattle.cmc_pass.specs.declared.pass.Desk.{Desk}
use Rattle.cmc_pass.specs.declared.pass.Views.{Views}
use Rattle.cmc_model.specs.Histories.{Setting}

-- the name of the Certificate that a request is for; its own where it names none
abbrev pub certificate_named : CertificateRequest → List ℕ
certificate_named r = unwrap_or (text_by_key r.meta.annotations (codes "cert-manager.io/certificate-name")) r.meta.name

-- whether the question is for a key of the Certificate's name, and whether it is one to the issuer for the Certificate of the request
abbrev pub asks_key : Option Certificate → Order → Bool
asks_key None order = false
asks_key (Some c) (KeyOrder order) = bytes_eq order.certificate.namespace c.meta.namespace && bytes_eq order.certificate.name c.meta.name
asks_key (Some c) (Csr order) = false
asks_key (Some c) (Sign order) = false
asks_key (Some c) (Judge order) = false

abbrev pub asks_issuer : Option CertificateRequest → Order → Bool
asks_issuer None order = false
asks_issuer (Some r) (KeyOrder order) = false
asks_issuer (Some r) (Csr order) = false
asks_issuer (Some r) (Sign order) = bytes_eq order.request.meta.namespace r.meta.namespace && bytes_eq (certificate_named order.request) (certificate_named r)
asks_issuer (Some r) (Judge order) = false

abbrev pub asked_with : (Order → Bool) → ℕ → Entry → ℕ
asked_with counts n (Ask pass order) = if counts order then n + 1 else n
asked_with counts n other = n

-- how many such questions were asked
abbrev pub asked : (Order → Bool) → List Entry → ℕ
asked counts [] = 0
asked counts (e ∷ h) = asked_with counts (asked counts h) e

-- how many questions the role asked before for this Certificate's name; a role whose questions have no numbers needs none
abbrev pub asked_before : List Entry → Role → Views → ℕ
asked_before h Trigger seen = 0
asked_before h KeyManager seen = asked (asks_key seen.certificate) h
asked_before h RequestManager seen = 0
asked_before h Approver seen = 0
asked_before h Issuer seen = asked (asks_issuer seen.request) h
asked_before h Issuing seen = 0
asked_before h Readiness seen = 0
asked_before h Revision seen = 0

abbrev pub desk : Setting → List Entry → Role → Views → Desk
desk s h role seen = record { material = s.material; asked = asked_before h role seen; rules = s.rules }

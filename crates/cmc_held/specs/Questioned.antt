-- How many questions were asked for each Certificate's name.
use Rattle.std.specs.Prelude.{ℕ, ◌&&◌, Bool, false, List, Option, Some, None, nat_eq, unwrap_or}
use Rattle.std.specs.Cmp.Lexicographic.{pointwise}
use Rattle.std.specs.Map.{lookup}
use Rattle.cmc_objects.specs.declared.certificate.Certificate.{Certificate}
use Rattle.cmc_objects.specs.declared.request.CertificateRequest.{CertificateRequest}
use Rattle.cmc_objects.specs.declared.orders.Order.{Order}
use Rattle.cmc_objects.specs.declared.orders.Order.TheVariants.{Key as KeyOrder, Sign}
use Rattle.cmc_objects.specs.declared.role.Role.{Role}
use Rattle.cmc_objects.specs.declared.role.Role.TheVariants.{KeyManager, Issuer}
use Rattle.cmc_pass.specs.declared.pass.Views.{Views}
use Rattle.cmc_rules.specs.Desks.{certificate_named}
use Rattle.cmc_held.specs.declared.questions.Subject.{Subject}

-- a Certificate's name in its namespace; a request can state any text as one
abbrev pub subject_eq : Subject → Subject → Bool
subject_eq a b = pointwise nat_eq a.namespace b.namespace && pointwise nat_eq a.name b.name

-- the counts, under the names in no order
abbrev pub Counts : Type 0
Counts = List (Subject × ℕ)

-- how many were counted under the name
unfoldable pub count_under : Counts → Subject → ℕ
count_under counts subject = unwrap_or (lookup (subject_eq subject) counts) 0

-- the questions for keys, and those to issuers
pub record Questioned : Type 0 where
  pub keys : Counts
  pub answers : Counts

abbrev pub subject_named : List ℕ → List ℕ → Subject
subject_named namespace name = record { namespace = namespace; name = name }

-- whether the question is for a key of this name, and whether it is one to the issuer for a request that names it
abbrev pub asks_key_at : Subject → Order → Bool
asks_key_at subject (KeyOrder order) = subject_eq (subject_named order.certificate.namespace order.certificate.name) subject
asks_key_at subject other = false

abbrev pub asks_issuer_at : Subject → Order → Bool
asks_issuer_at subject (Sign order) = subject_eq (subject_named order.request.meta.namespace (certificate_named order.request)) subject
asks_issuer_at subject other = false

-- how many keys were asked for the Certificate's name
abbrev pub keys_asked : Questioned → Option Certificate → ℕ
keys_asked q None = 0
keys_asked q (Some c) = count_under q.keys (subject_named c.meta.namespace c.meta.name)

-- how many questions to issuers were asked for the name of the Certificate that the request is for
abbrev pub answers_asked : Questioned → Option CertificateRequest → ℕ
answers_asked q None = 0
answers_asked q (Some r) = count_under q.answers (subject_named r.meta.namespace (certificate_named r))

-- how many questions the role asked before, by what it sees; a role whose questions have no numbers needs none
abbrev pub asked_for : Questioned → Role → Views → ℕ
asked_for q KeyManager seen = keys_asked q seen.certificate
asked_for q Issuer seen = answers_asked q seen.request
asked_for q other seen = 0

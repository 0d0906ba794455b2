-- A scenario that asks for many Certificates at once.
use Rattle.std.specs.Prelude.{ℕ, zero, suc, false, ◌+◌, ◌*◌, pos, List, [], ◌∷◌, ◌++◌, codes, Some, None}
use Rattle.cmc_meta.specs.declared.object_meta.ObjectMeta.{ObjectMeta}
use Rattle.cmc_time.specs.Texts.{four_digits}
use Rattle.cmc_objects.specs.Objects.{no_cert_status}
use Rattle.cmc_objects.specs.declared.certificate.CertSpec.{CertSpec}
use Rattle.cmc_objects.specs.declared.key_spec.Algorithm.TheVariants.{Ecdsa}
use Rattle.cmc_objects.specs.declared.object.Object.TheVariants.{Cert}
use Rattle.cmc_objects.specs.declared.entry.Step.{Step}
use Rattle.cmc_objects.specs.declared.entry.Step.TheVariants.{Apply, Tick, Settle}
use Rattle.cmc_setup.specs.Setups.{Setup}
use Rattle.cmc_material.specs.Approvers.{default_approver}
use Rattle.cmc_scenario_print.specs.Defaults.{all_roles}
use Rattle.cmc_scenario.specs.Scenarios.{usual_moment}

-- `c` and four digits
abbrev pub load_name : ℕ → List ℕ
load_name i = codes "c" ++ four_digits i

abbrev pub load_secret : ℕ → List ℕ
load_secret i = load_name i ++ codes "-tls"

abbrev pub load_host : ℕ → List ℕ
load_host i = load_name i ++ codes ".example"

abbrev pub load_meta : ℕ → ObjectMeta
load_meta i = record { namespace = codes "load"; name = load_name i; uid = 0; version = 0; generation = 0; created = pos 0; labels = []; annotations = []; owners = [] }

-- An ECDSA key of the issuer `ca` for one DNS name, and one request is kept.
abbrev pub load_spec : ℕ → CertSpec
load_spec i = record {
  secret_name = load_secret i;
  issuer = record { name = codes "ca"; kind = None; group = None };
  common_name = [];
  dns_names = load_host i ∷ [];
  ip_addresses = [];
  uris = [];
  emails = [];
  is_ca = false;
  usages = [];
  duration = None;
  renew_before = None;
  key = record { algorithm = Some Ecdsa; size = None; encoding = None; rotation = None };
  renew_percent = None;
  history_limit = Some 1;
}

-- Applies the Certificate of the number.
abbrev pub load_step : ℕ → Step
load_step i = Apply (Cert (record { meta = load_meta i; spec = load_spec i; status = no_cert_status })) None

-- Applies those of the numbers from 1 on.
abbrev pub loads : ℕ → List Step
loads zero = []
loads (suc n) = loads n ++ load_step (n + 1) ∷ []

-- After that all comes to rest, 60 days go by, and all comes to rest again.
abbrev pub rests : List Step
rests = Settle ∷ Tick 5184000 ∷ Settle ∷ []

-- The scenario of so many Certificates: a history has room for 1,000 entries each, and for 1,000 more.
abbrev pub load_setup : ℕ → Setup
load_setup count = record {
  events = 1000 * count + 1000;
  window = 1000;
  moment = usual_moment;
  roles = all_roles;
  faults = [];
  approver = default_approver;
  material = [];
  script = loads count ++ rests;
}

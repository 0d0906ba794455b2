-- What contracts see of the caches.
use Rattle.std.specs.Prelude.{◌≡◌, ◌≤◌, ℕ, List, length, Option, if◌then◌else◌, nat_lt}
use Rattle.cmc_meta.specs.declared.key.Key.{Key}
use Rattle.cmc_meta.specs.declared.key.Kind.{Kind}
use Rattle.cmc_meta.specs.declared.key.Kind.TheVariants.{Certificate, CertificateRequest, Secret}
use Rattle.cmc_objects.specs.declared.object.Object.{Object}
use Rattle.cmc_model.specs.declared.write.Write.{Write}
use Rattle.cmc_model.specs.Objects.{object_at}
use Rattle.cmc_model.specs.Writes.{kind_eq}
use Rattle.cmc_informer.specs.Informers.{Informed, IsCacheAt}
use Rattle.cmc_informer.specs.Watches.{Watched, start_of}

pub record Informers : Type 0 where
  pub certificates : Informed
  pub requests : Informed
  pub secrets : Informed

abbrev pub informer_of : Kind → Informers → Informed
informer_of Certificate i = i.certificates
informer_of CertificateRequest i = i.requests
informer_of Secret i = i.secrets

-- what the informer of its kind holds under the key
abbrev pub informer_object : Informers → Key → Option Object
informer_object i key = object_at (informer_of key.kind i).objects key

-- of how many accepted writes the informer of the kind was told
abbrev pub position_in : Kind → Informers → ℕ
position_in kind i = (informer_of kind i).position

-- it is one of the kind, and was told as the writes say
pub record IsInformerOf (kind : Kind) (informer : Informed) (writes : List Write) : Type 0 where
  pub kind_is : informer.kind ≡ kind
  pub within : informer.position ≤ length writes
  pub told : IsCacheAt informer writes

pub record AreCachesAt (i : Informers) (writes : List Write) : Type 0 where
  pub certificates : IsInformerOf Certificate i.certificates writes
  pub requests : IsInformerOf CertificateRequest i.requests writes
  pub secrets : IsInformerOf Secret i.secrets writes

-- where an informer comes to that is told up to a write: from below the window it lists what the newest write left
abbrev pub position_after : ℕ → ℕ → Watched → ℕ
position_after position to watch = if nat_lt position (start_of watch) then length watch.writes else to

-- the informer of the kind comes to this position, and no other moves
abbrev pub Moves : Kind → ℕ → Informers → Informers → Type 0
Moves kind to old new = (k : Kind) → position_in k new ≡ (if kind_eq kind k then to else position_in k old)

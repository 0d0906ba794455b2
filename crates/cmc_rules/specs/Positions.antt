-- How far each role has been told of each kind, and what it sees of it.
use Rattle.std.specs.Prelude.{ℕ, Bool, ◌&&◌, List, [], ◌∷◌, if◌then◌else◌}
use Rattle.cmc_meta.specs.declared.key.Kind.{Kind}
use Rattle.cmc_meta.specs.declared.key.Kind.TheVariants.{Certificate, CertificateRequest, Secret}
use Rattle.cmc_objects.specs.declared.role.Role.{Role}
use Rattle.cmc_objects.specs.Informers.{has_informer}
use Rattle.cmc_objects.specs.declared.entry.Positions.{Positions}
use Rattle.cmc_objects.specs.declared.entry.Entry.{Entry}
use Rattle.cmc_objects.specs.declared.entry.Entry.TheVariants.{Deliver, List as Listed, Start}
use Rattle.cmc_model.specs.Objects.{Objects}
use Rattle.cmc_model.specs.Histories.{Setting, role_eq}
use Rattle.cmc_model.specs.Writes.{kind_eq, objects_of}

-- ---- how far it has been told

abbrev pub is_informer : Role → Kind → Role → Kind → Bool
is_informer role kind r k = role_eq role r && kind_eq kind k

abbrev pub position_with : Role → Kind → ℕ → Entry → ℕ
position_with r k p (Deliver role kind to) = if is_informer role kind r k then to else p
position_with r k p (Listed role kind to) = if is_informer role kind r k then to else p
position_with r k p (Start role at) = if role_eq role r then at else p
position_with r k p other = p

-- up to which accepted write, counted over all kinds, the role was told of this kind: as its last delivery, list or start says
abbrev pub position : List Entry → Role → Kind → ℕ
position [] r k = 0
position (e ∷ h) r k = position_with r k (position h r k) e

abbrev pub position_told : List Entry → Role → Kind → ℕ
position_told h role kind = if has_informer role kind then position h role kind else 0

-- the positions of all kinds, 0 for a kind that it is not told of
abbrev pub positions : List Entry → Role → Positions
positions h role =
    record { certificates = position_told h role Certificate; requests = position_told h role CertificateRequest; secrets = position_told h role Secret }

abbrev pub position_of : Kind → Positions → ℕ
position_of Certificate at = at.certificates
position_of CertificateRequest at = at.requests
position_of Secret at = at.secrets

-- the objects of the kind as the role sees them
abbrev pub cache : Setting → List Entry → Role → Kind → Objects
cache s h role kind = objects_of kind s h (position h role kind)

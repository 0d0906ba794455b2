-- What a role is shown of its positions.
use Rattle.std.specs.Prelude.{ℕ, if◌then◌else◌}
use Rattle.cmc_meta.specs.declared.key.Kind.TheVariants.{Certificate, CertificateRequest, Secret}
use Rattle.cmc_objects.specs.declared.role.Role.{Role}
use Rattle.cmc_objects.specs.declared.entry.Positions.{Positions}
use Rattle.cmc_objects.specs.Informers.{has_informer}

-- the positions of the kinds that the role is told of, and 0 of each other kind
abbrev pub shown_positions : Role → Positions → Positions
shown_positions role told = record {
  certificates = if has_informer role Certificate then told.certificates else 0;
  requests = if has_informer role CertificateRequest then told.requests else 0;
  secrets = if has_informer role Secret then told.secrets else 0;
}

-- The flags of the informers that are held.
use Rattle.std.specs.Prelude.{Bool}
use Rattle.cmc_meta.specs.declared.key.Kind.{Kind}
use Rattle.cmc_meta.specs.declared.key.Kind.TheVariants.{Certificate, CertificateRequest, Secret}
use Rattle.cmc_objects.specs.declared.role.Role.{Role}
use Rattle.cmc_setup.specs.declared.holding.Holding.{Holding}
use Rattle.cmc_setup.specs.Flags.{flag_of}

-- whether the informer is held
abbrev pub held_of : Holding → Kind → Role → Bool
held_of holding Certificate role = flag_of holding.certificates role
held_of holding CertificateRequest role = flag_of holding.requests role
held_of holding Secret role = flag_of holding.secrets role

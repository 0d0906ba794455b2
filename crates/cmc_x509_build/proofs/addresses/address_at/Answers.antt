use Rattle.std.proofs.Common.{◌∙◌}
use Rattle.cmc_x509_build.proofs.AddressLaws.{address_again}
use Rattle.cmc_x509_build.proofs.addresses.address_at.Goals as goal

pub returns-clause-only : goal.returns-clause-only
returns-clause-only c octets h = c.address_of.ensures ∙ address_again _ octets h

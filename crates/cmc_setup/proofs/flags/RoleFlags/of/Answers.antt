use Rattle.cmc_setup.specs.Setups.{is_among}
use Rattle.cmc_setup.proofs.Orderly.{flag_of_each}
use Rattle.cmc_setup.proofs.flags.RoleFlags.of.Goals as goal

pub returns : goal.returns
returns c = record { each = λ r. rw (c.contains.ensures, c.contains-2.ensures, c.contains-3.ensures, c.contains-4.ensures, c.contains-5.ensures, c.contains-6.ensures, c.contains-7.ensures, c.contains-8.ensures) (flag_of_each (λ role. is_among c.args.roles.now role) r) }

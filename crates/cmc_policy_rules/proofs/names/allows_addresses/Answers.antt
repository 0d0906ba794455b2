use Rattle.cmc_policy_rules.proofs.names.allows_addresses.Goals as goal

pub returns-in-Some : goal.returns-in-Some
returns-in-Some c = rw c.in-Some.is (rw (c.as_slice.ensures, c.as_slice-in-Some.ensures) at c.has_each_address.ensures)

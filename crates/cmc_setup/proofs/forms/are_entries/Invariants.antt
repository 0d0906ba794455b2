use Rattle.std.proofs.Common.{◌≡◌}
use Rattle.std.specs.List.{list_all}
use Rattle.cmc_setup.specs.Forms.{is_entry_form}
use Rattle.cmc_setup.proofs.forms.are_entries.Given as goal

abbrev pub invariant-loop-certificate : goal.invariant-loop-certificate
invariant-loop-certificate l = list_all is_entry_form l.certificate-iterator ≡ list_all is_entry_form l.map.entries

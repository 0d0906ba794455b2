use Rattle.std.proofs.Common.{subst}
use Rattle.cmc_moves.proofs.Sounds.{each_sound}
use Rattle.cmc_audit_laws.proofs.RunText.{AreUtf8}
use Rattle.cmc_audit_laws.proofs.TextPasses.{is_printed}
use Rattle.cmc_audit_laws.proofs.Utf8Lines.{strings_utf8}
use Rattle.cmc_audit_laws.proofs.printing.what_is_printed_is_a_history.Goals as goal

pub returns : goal.returns
returns c = λ value printed.
    is_printed each_sound value c.args.scenario.now c.args.history.now.entries c.args.summary.now c.args.lines.now c.events-events.ensures.setup
    (record { names = c.entries_name_their_keys.ensures; types = c.entries_are_typed.ensures; numbers = c.entries_are_counted.ensures; summary_types = c.summary_is_typed.ensures })
    (subst AreUtf8 c.as_slice-strings.ensures.each (strings_utf8 c.as_slice-strings.result.now)) printed

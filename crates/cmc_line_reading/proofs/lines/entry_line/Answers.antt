use Rattle.cmc_line_reading.proofs.Compared.{not_given}
use Rattle.cmc_line_reading.proofs.lines.entry_line.Goals as goal

pub returns-in-Err-Path : goal.returns-in-Err-Path
returns-in-Err-Path c = not_given _ _ _ _ _ c.requires c.in-Err-Path.field-0-is c.in-Err-Path.ensures

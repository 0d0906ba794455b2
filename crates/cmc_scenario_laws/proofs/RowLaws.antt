-- The laws of rows, of what is so of each reading.
use Rattle.cmc_objects.specs.declared.rows.Rows.{Rows}
use Rattle.cmc_objects.specs.declared.rows.SignRow.{SignRow}
use Rattle.cmc_scenario_laws.specs.Rows.{AreReadAgain, HasReplyBytes, HaveRowBytes, IsReplyReadAgain}
use Rattle.cmc_scenario_laws.proofs.RowsAgain.{reply_row_so, rows_so}

pub reply_again : (row : SignRow) → HasReplyBytes row → IsReplyReadAgain row
reply_again row bytes d read = (reply_row_so d).each row read bytes

pub rows_again : (rows : Rows) → HaveRowBytes rows → AreReadAgain rows
rows_again rows bytes d read = (rows_so d).each rows read bytes

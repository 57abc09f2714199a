use Rattle.wf_first.proofs.RowLaws.{rows_are_rows}
use Rattle.wf_first.proofs.laws.rows_are_the_table.Goals as goal

pub returns : goal.returns
returns c = rows_are_rows

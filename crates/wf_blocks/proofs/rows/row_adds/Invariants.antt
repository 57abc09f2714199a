use Rattle.std.proofs.Common.{◌≡◌, drop}
use Rattle.wf_blocks.specs.Rows.{row_adds}
use Rattle.wf_blocks.proofs.rows.row_adds.Given as goal

abbrev pub invariant-loop-i : goal.invariant-loop-i
invariant-loop-i l = row_adds (drop l.i l.row) (drop l.i l.after) ≡ row_adds l.row l.after

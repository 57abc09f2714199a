use Rattle.std.proofs.Common.{◌≡◌, ◌++◌, drop}
use Rattle.wf_blocks.specs.Rows.{joined}
use Rattle.wf_blocks.proofs.rows.joined.Given as goal

abbrev pub invariant-loop-i : goal.invariant-loop-i
invariant-loop-i l = l.all.items ++ joined (drop l.i l.row) (drop l.i l.after) ≡ joined l.row l.after

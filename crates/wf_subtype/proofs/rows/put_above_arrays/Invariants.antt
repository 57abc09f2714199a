use Rattle.wf_subtype.specs.Rows.{Puts, IsArraysBit}
use Rattle.wf_subtype.proofs.rows.put_above_arrays.Given as goal

abbrev pub invariant-loop-n : goal.invariant-loop-n
invariant-loop-n l = Puts l.initial.rows l.rows (IsArraysBit l.classes l.n l.b)

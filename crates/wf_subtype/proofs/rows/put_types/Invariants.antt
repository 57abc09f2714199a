use Rattle.wf_subtype.specs.Rows.{Puts, IsBitBelow}
use Rattle.wf_subtype.proofs.rows.put_types.Given as goal

abbrev pub invariant-loop-i : goal.invariant-loop-i
invariant-loop-i l = Puts l.initial.rows l.rows (IsBitBelow l.classes l.references l.i)

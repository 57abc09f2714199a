use Rattle.std.proofs.Common.{◌≤◌, length}
use Rattle.wf_subtype.specs.Rows.{Puts, IsClassBit}
use Rattle.wf_subtype.proofs.RowBits.{IsAboveFrom}
use Rattle.wf_subtype.proofs.rows.put_classes_above.Given as goal

abbrev pub invariant-loop-d : goal.invariant-loop-d
invariant-loop-d l = record {
  puts : Puts l.initial.rows l.rows (IsClassBit l.first l.b (IsAboveFrom l.above.classes l.above.heights l.above.class l.bound));
  within : l.bound ≤ length l.above.classes;
}

abbrev pub decreases-loop-d : goal.decreases-loop-d
decreases-loop-d l = l.bound

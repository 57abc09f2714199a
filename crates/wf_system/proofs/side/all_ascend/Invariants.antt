use Rattle.std.proofs.Common.{ℕ, ◌<◌, [], slice_index_or}
use Rattle.wf_system.specs.Sides.{Ascends}
use Rattle.wf_system.proofs.side.all_ascend.Given as goal

abbrev pub invariant-loop-table : goal.invariant-loop-table
invariant-loop-table l = (i : ℕ) → i < l.table-index → Ascends (slice_index_or l.tables i [])

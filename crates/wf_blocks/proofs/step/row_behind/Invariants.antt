use Rattle.std.proofs.Common.{◌≡◌, length}
use Rattle.std.specs.Prelude.{map}
use Rattle.std.specs.List.{range_with_len}
use Rattle.wf_operation.specs.Effects.{source_at}
use Rattle.wf_blocks.specs.Rows.{seen_after}
use Rattle.wf_blocks.proofs.step.row_behind.Given as goal

abbrev pub invariant-loop-i : goal.invariant-loop-i
invariant-loop-i l = l.after.items ≡ seen_after l.row (map (source_at l.effect (length l.row)) (range_with_len 0 l.i))

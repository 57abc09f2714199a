use Rattle.std.proofs.Common.{ℕ, ◌≤◌, length, take}
use Rattle.std.specs.Prelude.{All}
use Rattle.wf_blocks.specs.Flowing.{Flowed, RowFits, IsLess}
use Rattle.wf_blocks.proofs.walk.spread.Given as goal

abbrev pub invariant-loop-to : goal.invariant-loop-to
invariant-loop-to l = record {
  flows : Flowed (take l.to-index l.targets) l.after l.initial.rows l.rows l.initial.queue.items l.queue.items;
  less : (width : ℕ) → All (RowFits width) l.initial.rows → length l.after ≤ width → IsLess width l.initial.rows l.rows l.initial.queue.items l.queue.items;
}

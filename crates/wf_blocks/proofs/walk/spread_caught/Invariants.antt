use Rattle.std.proofs.Common.{ℕ, ◌≤◌, length, take}
use Rattle.std.specs.Prelude.{All}
use Rattle.std.specs.List.{filter_map}
use Rattle.wf_blocks.specs.Bodies.{caught_by}
use Rattle.wf_blocks.specs.Flowing.{Flowed, RowFits, IsLess}
use Rattle.wf_blocks.proofs.walk.spread_caught.Given as goal

abbrev pub invariant-loop-catcher : goal.invariant-loop-catcher
invariant-loop-catcher l = record {
  flows : Flowed (filter_map (caught_by l.place) (take l.catcher-index l.catchers)) l.thrown l.initial.rows l.rows l.initial.queue.items l.queue.items;
  less : (width : ℕ) → All (RowFits width) l.initial.rows → length l.thrown ≤ width → IsLess width l.initial.rows l.rows l.initial.queue.items l.queue.items;
}

use Rattle.std.proofs.Common.{ℕ, ◌-◌, ◌<◌, ◌≤◌, List, length}
use Rattle.wf_blocks.specs.declared.seen.Seen.{Seen}
use Rattle.wf_blocks.specs.Advancing.{Advances, width_of}
use Rattle.wf_blocks.specs.Bodies.{graph_of, inner_of}
use Rattle.wf_blocks.specs.Walking.{Walking}
use Rattle.wf_blocks.proofs.walk.walk.Given as goal

abbrev pub invariant-loop-held : goal.invariant-loop-held
invariant-loop-held l = record {
  walking : (first : ℕ) (first_row : List Seen) → Walking (graph_of l.body) (inner_of l.body) l.initial.rows l.initial.queue.items first first_row l.fn.place l.fn.row
      → Walking (graph_of l.body) (inner_of l.body) l.rows l.queue.items first first_row l.at l.held;
  advances : Advances l.body l.initial.rows l.rows l.initial.queue.items l.queue.items;
  low : length l.held ≤ width_of l.body;
  inside : l.at < length l.body.steps;
}

abbrev pub decreases-loop-held : goal.decreases-loop-held
decreases-loop-held l = length l.body.steps - l.at

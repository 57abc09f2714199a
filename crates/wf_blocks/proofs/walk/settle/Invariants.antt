use Rattle.std.proofs.Common.{◌+◌, ◌*◌, length}
use Rattle.wf_blocks.specs.Advancing.{Ready, width_of}
use Rattle.wf_blocks.specs.Bodies.{graph_of, inner_of}
use Rattle.wf_blocks.specs.Flowing.{left_in}
use Rattle.wf_blocks.specs.Walking.{Working}
use Rattle.wf_blocks.proofs.walk.settle.Given as goal

abbrev pub invariant-loop-first : goal.invariant-loop-first
invariant-loop-first l = record {
  ready : Ready l.body l.rows l.queue.items;
  working : Working (graph_of l.body) (inner_of l.body) l.rows l.queue.items;
}

abbrev pub decreases-loop-first : goal.decreases-loop-first
decreases-loop-first l = 2 * left_in (width_of l.body) l.rows + length l.queue.items

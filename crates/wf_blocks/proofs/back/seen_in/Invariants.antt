use Rattle.std.proofs.Common.{◌<◌, List, length}
use Rattle.wf_blocks.specs.declared.seen.Seen.{Seen}
use Rattle.wf_blocks.specs.Answers.{RowIn, HasCount, IsTraced}
use Rattle.wf_blocks.specs.Rows.{seen_at}
use Rattle.wf_blocks.proofs.back.seen_in.Given as goal

abbrev pub invariant-loop-before : goal.invariant-loop-before
invariant-loop-before l = record {
  there : HasCount l.body l.rows l.at l.after;
  inside : l.at < length l.body.steps;
  traced : (row : List Seen) → RowIn l.body l.rows l.fn.place row → IsTraced l.body l.rows l.at l.from l.loss (seen_at row l.fn.slot);
}

abbrev pub decreases-loop-before : goal.decreases-loop-before
decreases-loop-before l = l.at

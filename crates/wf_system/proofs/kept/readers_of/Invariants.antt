use Rattle.std.proofs.Common.{ℕ}
use Rattle.wf_system.specs.Bodies.{system_of}
use Rattle.wf_system.specs.Kept.{AreListed}
use Rattle.wf_system.proofs.kept.readers_of.Given as goal

abbrev pub invariant-loop-row : goal.invariant-loop-row
invariant-loop-row l = (most : ℕ) → AreListed (system_of l.shape most l.side l.rows) l.row-index l.lists

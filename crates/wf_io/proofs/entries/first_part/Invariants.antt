use Rattle.std.proofs.Common.{◌≡◌, take, drop}
use Rattle.wf_io.specs.Tree.{entry_at}
use Rattle.wf_io.proofs.Paths.{behind}
use Rattle.wf_io.proofs.entries.first_part.Given as goal

-- no slash has been passed
abbrev pub invariant-loop-i : goal.invariant-loop-i
invariant-loop-i l = entry_at l.path ≡ behind (take l.i l.path) (entry_at (drop l.i l.path))

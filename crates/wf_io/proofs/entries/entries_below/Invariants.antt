use Rattle.std.proofs.Common.{◌≡◌, drop}
use Rattle.wf_io.specs.Tree.{listing}
use Rattle.wf_io.proofs.entries.entries_below.Given as goal

-- the files from here on have been gone over
abbrev pub invariant-loop-i : goal.invariant-loop-i
invariant-loop-i l = l.entries.keys ≡ listing (drop l.i l.files) l.dir

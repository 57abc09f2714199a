use Rattle.std.proofs.Common.{◌≡◌, drop}
use Rattle.wf_io.specs.Tree.{content}
use Rattle.wf_io.proofs.tree_mem.found.Given as goal

-- no file with the path has been passed
abbrev pub invariant-loop-file : goal.invariant-loop-file
invariant-loop-file l = content (drop l.file-index l.files) l.path ≡ content l.fn.files l.path

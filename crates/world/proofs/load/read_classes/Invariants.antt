use Rattle.std.proofs.Common.{[], drop}
use Rattle.wf_runs.specs.Run.{each, Goes, Reached}
use Rattle.wf_walk.specs.declared.limits.TheConstants.{MAX_BYTES}
use Rattle.world.specs.Load.{load_file}
use Rattle.world.proofs.load.read_classes.Given as goal

-- what is left is the run over the files that are left
abbrev pub invariant-loop-path : goal.invariant-loop-path
invariant-loop-path g l =
    Reached (Goes (each (load_file l.dir) l.paths (record { left = MAX_BYTES; classes = [] }))) (g.T.Tree.seen l.fn.tree) (g.T.Tree.seen l.tree)
    (Goes (each (load_file l.dir) (drop l.path-index l.path-items) l.so_far))

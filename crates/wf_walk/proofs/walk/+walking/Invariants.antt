use Rattle.std.proofs.Common.{◌+◌, ◌*◌, false, drop}
use Rattle.wf_runs.specs.Run.{each, Goes, Reached}
use Rattle.wf_walk.specs.Walk.{visit, visit_all, walk}
use Rattle.wf_walk.proofs.walk.+walking.Given as goal

abbrev pub decreases-visit : goal.decreases-visit
decreases-visit g l = 3 * l.depth + 1

abbrev pub decreases-visit_all : goal.decreases-visit_all
decreases-visit_all g l = 3 * l.depth + 2

abbrev pub decreases-walk : goal.decreases-walk
decreases-walk g l = 3 * l.depth

-- what is left is the run over the entries that are left
abbrev pub invariant-visit_all-loop-entry : goal.invariant-visit_all-loop-entry
invariant-visit_all-loop-entry g l =
    Reached (Goes (visit_all l.top (walk l.depth false) l.listing l.fn.walked)) (g.T.Tree.seen l.fn.tree) (g.T.Tree.seen l.tree)
    (Goes (each (visit l.top (walk l.depth false) l.listing.dir) (drop l.entry-index l.entry-items) l.walked))

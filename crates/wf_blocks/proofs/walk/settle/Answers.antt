use Rattle.std.proofs.Common.{ℕ, List, ap, subst, Ok, Bool, Result}
use Rattle.std.specs.declared.alloc.AllocError.{AllocError}
use Rattle.wf_blocks.specs.Bodies.{inner_of, graph_of}
use Rattle.wf_blocks.specs.Walking.{Working}
use Rattle.wf_blocks.proofs.walk.settle.Goals as goal

pub returns-then-not-branch-clause-bad : goal.returns-then-not-branch-clause-bad
returns-then-not-branch-clause-bad c =
    λ e. let ok : Bool → Result Bool AllocError = λ t. Ok t in
    let b = c.args.body.now in
    c.in_ok-visit.ensures.bad (ap ok c.if-not-branch.true)
    (subst (λ (qs : List ℕ). Working (graph_of b) (inner_of b) c.loop-first.rows qs) c.in-Some.ensures.items c.loop-first.invariant.working)

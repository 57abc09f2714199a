use Rattle.std.proofs.Common.{ℕ, List, [], ◌∷◌, ◌++◌, take, get_or, ap, subst, Ok, Bool, Result}
use Rattle.std.specs.declared.alloc.AllocError.{AllocError}
use Rattle.wf_blocks.specs.Flowing.{Flowed}
use Rattle.wf_blocks.proofs.EdgeLemmas.{taken_more, in_front_more, differs_among}
use Rattle.wf_blocks.proofs.FlowLemmas.{flowed_both, differs_before, less_both}
use Rattle.wf_blocks.proofs.walk.spread.Goals as goal

pub returns-then-not-branch-clause-differs : goal.returns-then-not-branch-clause-differs
returns-then-not-branch-clause-differs c =
    λ e. let ok : Bool → Result Bool AllocError = λ t. Ok t in
    let ts = c.args.targets.now in
    let to = get_or ts c.loop-to.to-index 0 in
    let d = differs_before (take c.loop-to.to-index ts) (to ∷ []) c.args.after.now c.args.rows.now c.loop-to.rows c.args.queue.now.items c.loop-to.queue.items
    c.loop-to.invariant.flows (c.in_ok-flow.ensures.differs (ap ok c.if-not-branch.true)) in
    differs_among (take c.loop-to.to-index ts ++ to ∷ []) ts c.args.after.now c.args.rows.now (λ t h. in_front_more ts c.loop-to.to-index 0 t c.loop-to-test.true h) d

pub loop-to-preserved : goal.loop-to-preserved
loop-to-preserved c =
    let ok : Bool → Result Bool AllocError = λ t. Ok t in
    let ts = c.args.targets.now in
    let to = get_or ts c.loop-to.to-index 0 in
    record {
      flows = subst (λ (us : List ℕ). Flowed us c.args.after.now c.args.rows.now c.flow.new.rows c.args.queue.now.items c.flow.new.queue.items)
          (taken_more ts c.loop-to.to-index 0 c.loop-to-test.true)
          (flowed_both (take c.loop-to.to-index ts) (to ∷ []) c.args.after.now c.args.rows.now c.loop-to.rows c.flow.new.rows c.args.queue.now.items c.loop-to.queue.items c.flow.new.queue.items
          c.loop-to.invariant.flows (c.in_ok-flow.ensures.flows (ap ok c.if-not-branch.false)));
      less = λ width fits low.
          let before = c.loop-to.invariant.less width fits low in
          less_both width c.args.rows.now c.loop-to.rows c.flow.new.rows c.args.queue.now.items c.loop-to.queue.items c.flow.new.queue.items
          before (c.in_ok-flow.ensures.less width (ap ok c.if-not-branch.false) before.fits low);
    }

pub returns-clause-less : goal.returns-clause-less
returns-clause-less c = λ width e fits low. c.loop-to.invariant.less width fits low

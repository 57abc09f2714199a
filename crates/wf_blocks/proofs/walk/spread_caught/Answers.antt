use Rattle.std.proofs.Common.{ℕ, ◌<◌, List, [], ◌∷◌, ◌++◌, length, take, get_or, ap, subst, sym, None, Ok, Bool, Result}
use Rattle.std.specs.Prelude.{All}
use Rattle.std.specs.List.{filter_map}
use Rattle.std.specs.declared.alloc.AllocError.{AllocError}
use Rattle.wf_blocks.specs.declared.body.Catcher.{Catcher}
use Rattle.wf_blocks.specs.Bodies.{caught_by}
use Rattle.wf_blocks.specs.Flowing.{Flowed}
use Rattle.wf_blocks.proofs.EdgeLemmas.{filter_map_more, in_filter_front_more, differs_among, each_given}
use Rattle.wf_blocks.proofs.FlowLemmas.{flowed_both, differs_before, less_both}
use Rattle.wf_blocks.proofs.walk.spread_caught.Goals as goal

pub flow_caught-requires : goal.flow_caught-requires
flow_caught-requires c =
    let d : Catcher = record { first = 0; end = 0; target = None } in
    subst (λ (n : ℕ). All (λ t. t < n) (filter_map (caught_by c.args.place) (get_or c.args.catchers.now c.loop-catcher.catcher-index d ∷ []))) (sym c.loop-catcher.auto.rows)
    (each_given (λ t. t < length c.args.rows.now) (caught_by c.args.place) c.args.catchers.now c.loop-catcher.catcher-index d c.loop-catcher-test.true c.requires)

pub returns-then-not-branch-clause-differs : goal.returns-then-not-branch-clause-differs
returns-then-not-branch-clause-differs c =
    λ e. let ok : Bool → Result Bool AllocError = λ t. Ok t in
    let d : Catcher = record { first = 0; end = 0; target = None } in
    let cs = c.args.catchers.now in
    let f = caught_by c.args.place in
    let i = c.loop-catcher.catcher-index in
    differs_among (filter_map f (take i cs) ++ filter_map f (get_or cs i d ∷ [])) (filter_map f cs) c.args.thrown.now c.args.rows.now
    (λ t h. in_filter_front_more f cs i d t c.loop-catcher-test.true h)
    (differs_before (filter_map f (take i cs)) (filter_map f (get_or cs i d ∷ [])) c.args.thrown.now c.args.rows.now c.loop-catcher.rows c.args.queue.now.items c.loop-catcher.queue.items
    c.loop-catcher.invariant.flows (c.in_ok-flow_caught.ensures.differs (ap ok c.if-not-branch.true)))

pub loop-catcher-preserved : goal.loop-catcher-preserved
loop-catcher-preserved c =
    let ok : Bool → Result Bool AllocError = λ t. Ok t in
    let d : Catcher = record { first = 0; end = 0; target = None } in
    let cs = c.args.catchers.now in
    let f = caught_by c.args.place in
    let i = c.loop-catcher.catcher-index in
    record {
      flows = subst (λ (us : List ℕ). Flowed us c.args.thrown.now c.args.rows.now c.flow_caught.new.rows c.args.queue.now.items c.flow_caught.new.queue.items)
          (filter_map_more f cs i d c.loop-catcher-test.true)
          (flowed_both (filter_map f (take i cs)) (filter_map f (get_or cs i d ∷ [])) c.args.thrown.now c.args.rows.now c.loop-catcher.rows c.flow_caught.new.rows c.args.queue.now.items c.loop-catcher.queue.items c.flow_caught.new.queue.items
          c.loop-catcher.invariant.flows (c.in_ok-flow_caught.ensures.flows (ap ok c.if-not-branch.false)));
      less = λ width fits low.
          let before = c.loop-catcher.invariant.less width fits low in
          less_both width c.args.rows.now c.loop-catcher.rows c.flow_caught.new.rows c.args.queue.now.items c.loop-catcher.queue.items c.flow_caught.new.queue.items
          before (c.in_ok-flow_caught.ensures.less width (ap ok c.if-not-branch.false) before.fits low);
    }

pub returns-clause-less : goal.returns-clause-less
returns-clause-less c = λ width e fits low. c.loop-catcher.invariant.less width fits low

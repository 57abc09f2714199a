use Rattle.std.proofs.Common.{◌-◌, false, inl, refl, arith, rules}
use Rattle.wf_runs.proofs.RunLaws.{here, turns, then, done, answered, at_once, goes_on, stops_leaves, no_memory_leaves, hands_on_leaves}
use Rattle.wf_walk.specs.declared.walk.Listing.{Listing}
use Rattle.wf_walk.specs.Walk.{visit, visit_all, walk}
use Rattle.wf_walk.proofs.WalkLaws.{too_deep, goes_in}
use Rattle.wf_walk.proofs.walk.+walking.Goals as goal

pub visit-returns-then-eq : goal.visit-returns-then-eq
visit-returns-then-eq g t c = at_once _ (search rules)

pub visit-returns-in_err-below : goal.visit-returns-in_err-below
visit-returns-in_err-below g t c = no_memory_leaves _ _ c.from_residual.ensures.1 (here _ _)

pub visit-returns-in_err-path : goal.visit-returns-in_err-path
visit-returns-in_err-path g t c = no_memory_leaves _ _ c.from_residual-in_err-path.ensures.1 (here _ _)

pub visit-returns-then-is_noted : goal.visit-returns-then-is_noted
visit-returns-then-is_noted g t c = at_once _ (search rules)

pub visit-returns : goal.visit-returns
visit-returns g t c = at_once _ (search rules)

pub visit_all-loop-entry-init : goal.visit_all-loop-entry-init
visit_all-loop-entry-init g t c = rw (c.as_slice-entry-items.ensures, c.len.ensures) (here _ _)

pub visit_all-returns-in_err-visit : goal.visit_all-returns-in_err-visit
visit_all-returns-in_err-visit g t c =
    stops_leaves (visit c.args.top (walk c.args.depth false) c.args.listing.now.dir) c.as_slice-entry-items.result.now c.loop-entry.entry-index c.entry-item.result c.loop-entry.walked _ _ c.from_residual.ensures.1
    c.loop-entry-test.true c.entry-item.is c.loop-entry.invariant c.in_err-visit.ensures

pub visit_all-loop-entry-preserved : goal.visit_all-loop-entry-preserved
visit_all-loop-entry-preserved g t c =
    goes_on (visit c.args.top (walk c.args.depth false) c.args.listing.now.dir) c.as_slice-entry-items.result.now c.loop-entry.entry-index c.entry-item.result c.loop-entry.walked c.loop-entry-test.true c.entry-item.is c.loop-entry.invariant c.in_ok-visit.ensures

pub walk-returns-then-depth-eq0 : goal.walk-returns-then-depth-eq0
walk-returns-then-depth-eq0 g t c = answered (turns (too_deep c.args.depth c.args.top c.args.dir c.args.walked.now c.if-depth-eq0.true) (here _ _)) (inl refl)

pub walk-returns-in_err-listing : goal.walk-returns-in_err-listing
walk-returns-in_err-listing g t c =
    let within = goes_in c.args.depth c.args.top c.args.dir c.args.walked.now (omega arith) in
    let f = λ (l : Listing). visit_all c.args.top (walk (c.args.depth - 1) false) l c.args.walked.now in
    hands_on_leaves f _ _ c.from_residual.ensures.1 (turns within (here _ _)) c.in_err-listing.ensures.listed

pub walk-returns : goal.walk-returns
walk-returns g t c =
    let within = goes_in c.args.depth c.args.top c.args.dir c.args.walked.now (omega arith) in
    let f = λ (l : Listing). visit_all c.args.top (walk (c.args.depth - 1) false) l c.args.walked.now in
    done (then f (turns within (here _ _)) c.in_ok-listing.ensures.listed) c.visit_all.ensures

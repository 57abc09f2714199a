use Rattle.std.proofs.Common.{◌+◌, sym, subst, take, arith}
use Rattle.std.proofs.lemmas.List.{get_or_default}
use Rattle.wf_links.specs.Candidates.{AreShared}
use Rattle.wf_links.proofs.SharedCalls.{shared_on}
use Rattle.wf_links.proofs.sharing.share.Goals as goal

pub loop-callee-preserved : goal.loop-callee-preserved
loop-callee-preserved c =
    let called = c.args.called.now in
    let i = c.loop-callee.callee-index in
    subst (λ places. AreShared (take (i + 1) called) c.place_of.new.met.keys places) (sym c.in_ok-push.ensures.items)
    (shared_on called c.loop-callee.callees.keys c.place_of.new.met.keys c.loop-callee.places.items i c.in_ok-place.place _ (omega arith) (get_or_default called i _ _ (omega arith)) c.loop-callee.invariant c.in_ok-place.ensures)

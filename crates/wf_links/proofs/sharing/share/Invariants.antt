use Rattle.std.proofs.Common.{take}
use Rattle.wf_links.specs.Candidates.{AreShared}
use Rattle.wf_links.proofs.sharing.share.Given as goal

abbrev pub invariant-loop-callee : goal.invariant-loop-callee
invariant-loop-callee l = AreShared (take l.callee-index l.called) l.callees.keys l.places.items

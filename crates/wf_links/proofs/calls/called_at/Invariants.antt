use Rattle.std.proofs.Common.{take}
use Rattle.wf_links.specs.Candidates.{AreCalled}
use Rattle.wf_links.specs.Sites.{sites_in}
use Rattle.wf_links.proofs.calls.called_at.Given as goal

abbrev pub invariant-loop-placed : goal.invariant-loop-placed
invariant-loop-placed l = AreCalled l.types (sites_in l.m (take l.placed-index l.code)) l.called.items

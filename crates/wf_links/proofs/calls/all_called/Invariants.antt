use Rattle.std.proofs.Common.{◌<◌, ◌^◌, length}
use Rattle.wf_links.specs.Candidates.{AreCalledBelow}
use Rattle.wf_links.proofs.calls.all_called.Given as goal

abbrev pub invariant-loop-n : goal.invariant-loop-n
invariant-loop-n l = record {
  called : AreCalledBelow l.types l.n l.firsts.items l.callees.items;
  few : length l.callees.items < 2 ^ 32;
}

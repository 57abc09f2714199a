use Rattle.std.proofs.Common.{◌≡◌, drop}
use Rattle.wf_descriptor.specs.Descriptors.{stop}
use Rattle.wf_descriptor.proofs.machine.stop.Given as goal

abbrev pub invariant-loop-at : goal.invariant-loop-at
invariant-loop-at l = stop l.state l.at (drop l.at l.bytes) ≡ stop l.fn.state 0 l.bytes

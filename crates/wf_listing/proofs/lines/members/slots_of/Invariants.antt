use Rattle.std.proofs.Common.{◌≡◌, ◌-◌, ◌≤◌, true}
use Rattle.wf_descriptor.specs.Descriptors.{is_method_descriptor}
use Rattle.wf_listing.proofs.Slots.{NoneBelow}
use Rattle.wf_listing.proofs.lines.members.slots_of.Given as goal

abbrev pub invariant-loop-low : goal.invariant-loop-low
invariant-loop-low l = record {
  order : l.low ≤ l.high;
  top : l.high ≤ 254;
  enough : is_method_descriptor l.high l.desc ≡ true;
  fewer : NoneBelow l.desc l.low;
}

abbrev pub decreases-loop-low : goal.decreases-loop-low
decreases-loop-low l = l.high - l.low

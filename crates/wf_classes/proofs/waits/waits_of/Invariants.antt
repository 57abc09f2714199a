use Rattle.std.proofs.Common.{◌≡◌, map, take}
use Rattle.wf_classes.specs.Closing.{wanted, waits_upto}
use Rattle.wf_classes.proofs.waits.waits_of.Given as goal

abbrev pub invariant-loop-below : goal.invariant-loop-below
invariant-loop-below l = record {
  starts : l.waiting.items ≡ map wanted (take l.below l.files);
  all : l.waits.items ≡ waits_upto l.files l.below;
}

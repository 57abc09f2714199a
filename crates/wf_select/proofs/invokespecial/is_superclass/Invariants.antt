use Rattle.std.proofs.Common.{◌≡◌, ◌<◌, Some, length, get_or}
use Rattle.wf_classes.specs.World.{superclass_of}
use Rattle.wf_select.specs.Overriding.{IsSuperclass}
use Rattle.wf_select.proofs.invokespecial.is_superclass.Given as goal

abbrev pub invariant-upward : goal.invariant-upward
invariant-upward l = record {
  in_there : l.at.0 < length l.classes;
  step : superclass_of l.classes l.at.0 ≡ Some l.d.0 → IsSuperclass l.classes l.fn.c.0 l.d.0;
  up : IsSuperclass l.classes l.at.0 l.d.0 → IsSuperclass l.classes l.fn.c.0 l.d.0;
  down : IsSuperclass l.classes l.fn.c.0 l.d.0 → IsSuperclass l.classes l.at.0 l.d.0;
}

abbrev pub decreases-upward : goal.decreases-upward
decreases-upward l = get_or l.ranks.heights.now l.at.0 0

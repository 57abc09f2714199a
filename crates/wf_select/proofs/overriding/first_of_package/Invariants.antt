use Rattle.std.proofs.Common.{get_or}
use Rattle.wf_classes.specs.World.{number}
use Rattle.wf_select.proofs.PackageWalk.{IsWalked}
use Rattle.wf_select.proofs.overriding.first_of_package.Given as goal

abbrev pub invariant-upward : goal.invariant-upward
invariant-upward l = IsWalked l.classes (l.name, l.desc) (number l.a.class) l.fn.t.0 l.d.0 l.passed

abbrev pub decreases-upward : goal.decreases-upward
decreases-upward l = get_or l.ranks.heights.now l.d.0 0

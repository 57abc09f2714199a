use Rattle.wf_resolve.proofs.InterfaceSweep.{IsSweptTo}
use Rattle.wf_resolve.proofs.superinterfaces.from_interfaces.Given as goal

abbrev pub invariant-sweep : goal.invariant-sweep
invariant-sweep l = IsSweptTo l.classes (l.name, l.desc) l.above.heights l.c.0 l.bound l.hidden l.found

abbrev pub decreases-sweep : goal.decreases-sweep
decreases-sweep l = l.bound

use Rattle.std.proofs.Common.{◌≡◌, ◌++◌, map, reverse}
use Rattle.wf_init.specs.declared.Task.TheVariants.{Begin}
use Rattle.wf_init.proofs.push_all.Given as goal

abbrev pub invariant-loop-i : goal.invariant-loop-i
invariant-loop-i l = map Begin l.i-iterator.iter.rest.now ++ reverse l.tasks.items ≡ map Begin l.interfaces ++ reverse l.initial.tasks.items

use Rattle.std.proofs.Common.{◌≡◌, true, ◌++◌, take}
use Rattle.std.specs.List.{flat_map}
use Rattle.wf_classes.specs.Closing.{wait_for}
use Rattle.wf_classes.proofs.waits.push_waits.Given as goal

abbrev pub invariant-loop-interface : goal.invariant-loop-interface
invariant-loop-interface l = l.waits.items ≡ l.initial.waits.items ++ flat_map (wait_for l.files l.below true) (take l.interface-index l.interface-items)

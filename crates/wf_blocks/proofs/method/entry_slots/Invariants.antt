use Rattle.std.proofs.Common.{◌≡◌, ◌++◌, take}
use Rattle.wf_blocks.specs.Methods.{receiver_slots, param_slots}
use Rattle.wf_blocks.proofs.method.entry_slots.Given as goal

abbrev pub invariant-loop-param : goal.invariant-loop-param
invariant-loop-param l = l.slots.items ≡ receiver_slots l.is_static ++ param_slots (take l.param-index l.params)

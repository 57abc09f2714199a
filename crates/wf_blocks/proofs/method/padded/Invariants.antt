use Rattle.std.proofs.Common.{◌≡◌, ◌-◌, length}
use Rattle.wf_operation.specs.declared.slot.SlotKind.TheVariants.{Unused}
use Rattle.wf_blocks.specs.Methods.{filled}
use Rattle.wf_blocks.proofs.method.padded.Given as goal

abbrev pub invariant-loop-all : goal.invariant-loop-all
invariant-loop-all l = filled l.all.items Unused l.count ≡ filled l.fn.slots.items Unused l.count

abbrev pub decreases-loop-all : goal.decreases-loop-all
decreases-loop-all l = l.count - length l.all.items

use Rattle.std.proofs.Common.{◌≡◌, ◌++◌, length}
use Rattle.wf_actions.specs.Operands.{depths_of}
use Rattle.wf_actions.proofs.operands.depths_of.Given as goal

abbrev pub invariant-operands : goal.invariant-operands
invariant-operands l = depths_of l.fn.slots ≡ l.depths.items ++ depths_of l.left

abbrev pub decreases-operands : goal.decreases-operands
decreases-operands l = length l.left

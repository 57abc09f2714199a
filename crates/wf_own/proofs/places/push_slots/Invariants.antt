use Rattle.std.proofs.Common.{◌≡◌, ◌++◌, drop}
use Rattle.wf_rows.specs.Each.{each_from}
use Rattle.wf_rows.specs.OwnNodes.{merged_nodes}
use Rattle.wf_own.proofs.places.push_slots.Given as goal

abbrev pub invariant-loop-slot : goal.invariant-loop-slot
invariant-loop-slot l = l.nodes ++ each_from (merged_nodes l.pc) l.slot (drop l.slot l.kinds) ≡ l.fn.nodes ++ each_from (merged_nodes l.pc) 0 l.kinds

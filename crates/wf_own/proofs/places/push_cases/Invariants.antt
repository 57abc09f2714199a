use Rattle.std.proofs.Common.{◌≡◌, ◌++◌, drop}
use Rattle.wf_rows.specs.Each.{each_from}
use Rattle.wf_rows.specs.OwnNodes.{case_nodes}
use Rattle.wf_own.proofs.places.push_cases.Given as goal

abbrev pub invariant-loop-edge : goal.invariant-loop-edge
invariant-loop-edge l = l.nodes ++ each_from (case_nodes l.pc l.next) l.edge (drop l.edge l.cases) ≡ l.fn.nodes ++ each_from (case_nodes l.pc l.next) 0 l.cases

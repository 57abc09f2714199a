use Rattle.std.proofs.Common.{◌≡◌, ℕ, List, Some}
use Rattle.wf_rows.specs.declared.node.Node.{Node}
use Rattle.wf_rows.specs.declared.node.Node.TheVariants.{In}
use Rattle.wf_rows.specs.declared.node.Own.{Own}
use Rattle.wf_rows.specs.Nodes.{Shared, IsThere}
use Rattle.wf_nodes.specs.Numbering.{AreWhole}
use Rattle.wf_graph.specs.Numbering.{number_in}
use Rattle.wf_graph.proofs.laws.nodes_that_are_there_have_numbers.Goals as goal

pub returns : goal.returns
returns c = at where
  at : (s : Shared) (first : ℕ) (owns : List Own) (node : Node Own) → AreWhole s → IsThere s owns node → (n : ℕ) × (number_in s first owns node ≡ Some n)
  at s first owns (In own) whole there = c.own_nodes_have_numbers_of_their_own.ensures.there first owns own there
  at s first owns node whole there = c.shared_nodes_have_numbers_of_their_own.ensures.there s node whole there

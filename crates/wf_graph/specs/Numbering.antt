-- The numbers of all nodes (this project's own): those that bodies share first, and behind them those of each body, in the
-- order of methods.
use Rattle.std.specs.Prelude.{ℕ, List, length, Option}
use Rattle.wf_rows.specs.declared.node.Node.{Node}
use Rattle.wf_rows.specs.declared.node.Node.TheVariants.{In}
use Rattle.wf_rows.specs.declared.node.Own.{Own}
use Rattle.wf_rows.specs.Nodes.{Shared}
use Rattle.wf_nodes.specs.Numbering.{shared_number}
use Rattle.wf_own.specs.OwnNumbers.{own_number}
use Rattle.wf_graph.specs.Bodies.{Body}
use Rattle.wf_graph.specs.BodyNodes.{body_nodes}

-- the number of a node in a body whose nodes begin at a number, as its rows name it
abbrev pub number_in : Shared → ℕ → List Own → Node Own → Option ℕ
number_in s first owns (In own) = own_number first owns own
number_in s first owns node = shared_number s node

-- how many nodes of its own a body has
abbrev pub body_count : Body → ℕ
body_count b = length (body_nodes b)

-- The inequalities of one method, by numbers (this project's own, after SkipFlow, CGO 2025).
use Rattle.std.specs.Prelude.{◌≡◌, ℕ, List, Option, option_map}
use Rattle.wf_base.specs.declared.ids.NodeId.{NodeId}
use Rattle.wf_system.specs.declared.inequality.Inequality.{Inequality}
use Rattle.wf_rows.specs.declared.node.Node.{Node}
use Rattle.wf_rows.specs.declared.node.Own.{Own}
use Rattle.wf_rows.specs.Nodes.{Shared}
use Rattle.wf_rows.specs.Renaming.{all_renamed}
use Rattle.wf_nodes.specs.Sharing.{thrown_type}
use Rattle.wf_body.specs.Parts.{Parts}
use Rattle.wf_body.specs.Sources.{MethodSource}
use Rattle.wf_graph.specs.Bodies.{Body, HasBody}
use Rattle.wf_graph.specs.BodyNodes.{body_nodes}
use Rattle.wf_graph.specs.BodyRows.{body_rows}
use Rattle.wf_graph.specs.Numbering.{body_count, number_in}

abbrev pub node_id : ℕ → NodeId
node_id n = record { 0 = n }

-- the number of a node as the rows of a body name it, where its own nodes are numbered from `first` on
abbrev pub node_number : Shared → ℕ → List Own → Node Own → Option NodeId
node_number s first owns node = option_map node_id (number_in s first owns node)

-- a method has so many nodes of its own, and exactly these inequalities
pub record IsSystemOf (p : Parts) (shared : Shared) (s : MethodSource) (first_keys first own : ℕ) (list : List (Inequality NodeId)) : Type 0 where
  pub body : Body
  pub has : HasBody p s body
  pub keys : body.first_keys ≡ first_keys
  pub nodes : own ≡ body_count body
  pub rows : list ≡ all_renamed (node_number shared first (body_nodes body)) (body_rows shared.arrays (thrown_type p.types) body)

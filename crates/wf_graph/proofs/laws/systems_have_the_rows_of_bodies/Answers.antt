use Rattle.std.proofs.Common.{◌↔◌, Contains, sym, subst, List}
use Rattle.wf_base.specs.declared.ids.NodeId.{NodeId}
use Rattle.wf_system.specs.Numbers.{NumberedRow}
use Rattle.wf_system.specs.declared.inequality.Inequality.{Inequality}
use Rattle.wf_nodes.specs.Sharing.{thrown_type}
use Rattle.wf_graph.specs.BodyNodes.{body_nodes}
use Rattle.wf_graph.specs.BodyRows.{body_rows}
use Rattle.wf_graph.specs.MethodSystem.{node_number}
use Rattle.wf_graph.proofs.laws.systems_have_the_rows_of_bodies.Goals as goal

pub returns : goal.returns
returns c = λ p shared s first_keys first own list h.
    let rows = body_rows shared.arrays (thrown_type p.types) h.body in
    let number = node_number shared first (body_nodes h.body) in
    (h.body, h.has, h.nodes, λ r. subst (λ (qs : List (Inequality NodeId)). Contains qs r ↔ NumberedRow number (λ q. Contains rows q) r) (sym h.rows) (c.numbered_rows_are_named_rows.ensures number rows r))

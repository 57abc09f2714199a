use Rattle.std.proofs.Common.{◌≡◌, ◌++◌, drop}
use Rattle.wf_blocks.specs.Bodies.{graph_of}
use Rattle.wf_blocks.specs.Graphs.{Reached}
use Rattle.wf_rows.specs.Each.{each_from}
use Rattle.wf_rows.specs.Renaming.{all_renamed}
use Rattle.wf_known.specs.Fronts.{Says}
use Rattle.wf_graph.specs.Bodies.{Body}
use Rattle.wf_graph.specs.BodyRows.{edge_from}
use Rattle.wf_graph.specs.Flow.{IsFlow}
use Rattle.wf_graph.proofs.edges.push_edges.Given as goal

abbrev pub invariant-loop-edge : goal.invariant-loop-edge
invariant-loop-edge g l =
    (b : Body) → IsFlow l.blocks l.env.1 l.method b → Reached (graph_of l.blocks) l.place → Says l.method (b.before l.place) l.front
    → l.rows.items ++ all_renamed (g.C.Context.number l.context) (each_from (edge_from b l.place) l.edge (drop l.edge l.targets))
    ≡ l.fn.rows.items ++ all_renamed (g.C.Context.number l.context) (each_from (edge_from b l.place) 0 l.targets)

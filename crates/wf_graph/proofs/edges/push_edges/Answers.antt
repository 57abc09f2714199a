use Rattle.std.proofs.Common.{◌++◌, List, ℕ, ap, ◌∙◌, arith}
use Rattle.wf_blocks.specs.declared.body.Body.{Body as Shape}
use Rattle.wf_blocks.specs.Bodies.{targets_at}
use Rattle.wf_rows.specs.Each.{each_from}
use Rattle.wf_rows.specs.Renaming.{all_renamed}
use Rattle.wf_rows.proofs.Adding.{added_next}
use Rattle.wf_graph.specs.BodyRows.{edge_from}
use Rattle.wf_graph.proofs.RowLemmas.{added_all}
use Rattle.wf_graph.proofs.edges.push_edges.Goals as goal

pub loop-edge-preserved : goal.loop-edge-preserved
loop-edge-preserved g c = λ b flow reached said.
    added_next (g.C.Context.number c.args.context.now) (edge_from b c.args.place) c.targets_at-targets.result.now c.loop-edge.edge 0 c.loop-edge.rows.items c.push_edge_from.new.rows.items _ (omega arith)
    (c.in_ok-push_edge_from.ensures b flow reached said) (c.loop-edge.invariant b flow reached said)

pub returns : goal.returns
returns g c = λ b flow reached said.
    let number = g.C.Context.number c.args.context.now in
    let targets = c.targets_at-targets.result.now in
    added_all number (edge_from b c.args.place) targets c.loop-edge.edge c.loop-edge.rows.items _ (omega arith) (c.loop-edge.invariant b flow reached said)
    ∙ ap (λ (l : List ℕ). c.args.rows.now.items ++ all_renamed number (each_from (edge_from b c.args.place) 0 l)) (c.targets_at-targets.ensures ∙ ap (λ (x : Shape). targets_at x c.args.place) c.body.ensures)

use Rattle.wf_ssa.specs.Environments.{along_edge}
use Rattle.wf_graph.specs.Bodies.{failing_in}
use Rattle.wf_graph.proofs.RowLemmas.{along_said, leads_inside}
use Rattle.wf_graph.proofs.edges.push_edge_from.Goals as goal

pub returns : goal.returns
returns g c = λ b flow reached said.
    let shape = c.args.blocks.now in
    let failing = c.args.env.now.1 in
    c.push_edge_into.ensures b (along_edge b.shape (failing_in b) c.args.place c.args.edge (b.before c.args.place)) flow
    (along_said shape failing c.args.method b c.args.place c.args.edge c.args.front.now c.in_ok-along.along flow reached said c.in_ok-along.ensures)
    (leads_inside shape failing c.args.method b c.args.place c.args.edge c.args.to flow reached c.requires.leads)

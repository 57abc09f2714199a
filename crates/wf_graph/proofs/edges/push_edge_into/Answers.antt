use Rattle.std.proofs.Common.{◌≡◌, ◌<◌, ◌++◌, List, length, ap, sym, subst, ◌∙◌}
use Rattle.std.specs.Prelude.{OnOk}
use Rattle.wf_blocks.specs.declared.body.Body.{Body as Shape}
use Rattle.wf_ssa.specs.Environments.{pc_at}
use Rattle.wf_rows.specs.Renaming.{all_renamed}
use Rattle.wf_graph.specs.BodyRows.{Row}
use Rattle.wf_graph.proofs.RowLemmas.{env_reached, into_is}
use Rattle.wf_graph.proofs.edges.push_edge_into.Goals as goal

pub returns : goal.returns
returns g c = λ b k flow said inside.
    let env = c.args.env.now.0 in
    let shape = c.args.blocks.now in
    subst (λ (l : List Row). OnOk c.push_met.result (c.push_met.new.rows.items ≡ c.args.rows.now.items ++ all_renamed (g.C.Context.number c.args.context.now) l))
    (into_is env shape c.args.env.now.1 c.args.method b k c.args.to c.pc_at.result c.known-known.result c.requires flow (c.pc_at.ensures ∙ ap (λ (x : Shape). pc_at x c.args.to) c.body.ensures) (c.known-known.ensures ∙ said.at c.pc_at.result))
    (c.push_met.ensures b.marks (env_reached env shape c.args.env.now.1 c.args.method b c.requires flow) (subst (λ (x : Shape). c.args.to < length x.steps) (sym c.requires) inside))

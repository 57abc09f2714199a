use Rattle.std.proofs.Common.{◌≡◌, ◌<◌, ◌++◌, List, length, map, ap, sym, subst, ◌∙◌}
use Rattle.std.specs.List.{range_with_len}
use Rattle.std.specs.Prelude.{OnOk}
use Rattle.wf_blocks.specs.declared.body.Body.{Body as Shape}
use Rattle.wf_blocks.specs.Bodies.{locals_of}
use Rattle.wf_ssa.specs.Environments.{entry_before, entry_name, pc_at}
use Rattle.wf_rows.specs.Renaming.{all_renamed}
use Rattle.wf_known.specs.Flows.{node_of}
use Rattle.wf_graph.specs.BodyRows.{Row}
use Rattle.wf_graph.proofs.RowLemmas.{entry_inside, entry_is, env_reached, into_is, known_by}
use Rattle.wf_graph.proofs.entry.push_entry.Goals as goal

pub returns : goal.returns
returns g c = λ b flow.
    let env = c.args.env.now.0 in
    let failing = c.args.env.now.1 in
    let shape = c.args.blocks.now in
    let m = c.args.method in
    let slots = c.as_slice.result.now in
    let held = c.as_slice.ensures.value ∙ c.in_ok-nodes.ensures ∙ ap (λ (x : Shape). map (node_of m) (map (entry_name x) (range_with_len 0 (locals_of x)))) c.body.ensures in
    subst (λ (l : List Row). OnOk c.push_met.result (c.push_met.new.rows.items ≡ c.args.rows.now.items ++ all_renamed (g.C.Context.number c.args.context.now) l))
    (into_is env shape failing m b (entry_before b.shape) 0 c.pc_at.result (known_by m c.pc_at.result slots) c.requires flow (c.pc_at.ensures ∙ ap (λ (x : Shape). pc_at x 0) c.body-2.ensures)
    (entry_is shape failing m b c.pc_at.result slots flow held))
    (c.push_met.ensures b.marks (env_reached env shape failing m b c.requires flow) (subst (λ (x : Shape). 0 < length x.steps) (sym c.requires) (entry_inside shape failing m b flow)))

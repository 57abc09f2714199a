use Rattle.std.proofs.Common.{◌≡◌, ◌++◌, List, Option, ap, subst, ◌∙◌}
use Rattle.std.specs.Option.{option_copied}
use Rattle.std.proofs.lemmas.Result.{on_ok_weaker}
use Rattle.wf_blocks.specs.declared.body.Body.{Body as Shape}
use Rattle.wf_blocks.specs.Bodies.{targets_at}
use Rattle.wf_rows.specs.declared.action.Action.{Action}
use Rattle.wf_rows.specs.Each.{each_from}
use Rattle.wf_rows.specs.Renaming.{all_renamed}
use Rattle.wf_body.specs.Methods.{act_at}
use Rattle.wf_graph.specs.BodyRows.{Row, act_rows, edge_from, entry_over}
use Rattle.wf_graph.proofs.RowLemmas.{added_three, reached_is}
use Rattle.wf_graph.proofs.places.push_reached.Goals as goal

pub returns : goal.returns
returns g c = λ b by keys reached said.
    let number = g.C.Context.number c.args.context.now in
    let arrays = g.C.Context.arrays c.args.context.now in
    let thrown = g.C.Context.thrown c.args.context.now in
    let reading = c.args.reading.now in
    let place = c.args.place in
    let known = c.known-known.result in
    let operation = option_copied c.as_ref.result in
    let act = option_copied c.act_at-act.result in
    let old = c.args.rows.now.items in
    on_ok_weaker c.push_covering.result
    (λ covering.
    subst (λ (l : List Row). c.push_covering.new.rows.items ≡ old ++ all_renamed number l)
    (reached_is reading.blocks c.args.env.now.1 reading.method reading.acts reading.handlers c.as_slice-3.result.now b arrays thrown place c.args.keys c.args.step.now c.args.front.now known operation act c.as_slice-2.result.now by keys said
    c.known-known.ensures c.as_ref.ensures.value (c.act_at-act.ensures ∙ ap (λ (x : List (Option Action)). act_at x place) c.as_slice.ensures)
    (c.as_slice-2.ensures ∙ ap (λ (x : Shape). x.catchers) c.body.ensures) c.as_slice-3.ensures)
    (added_three number (act_rows known arrays thrown c.args.keys operation act) (each_from (edge_from b place) 0 (targets_at reading.blocks place)) (each_from (entry_over c.as_slice-3.result.now known place) 0 c.as_slice-2.result.now)
    old c.push_act.new.rows.items c.push_edges.new.rows.items c.push_covering.new.rows.items c.in_ok-push_act.ensures (c.in_ok-push_edges.ensures b by.flow reached said) covering))
    c.push_covering.ensures

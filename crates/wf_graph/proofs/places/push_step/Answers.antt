use Rattle.std.proofs.Common.{◌≡◌, ◌++◌, Bool, [], ap, sym, subst}
use Rattle.std.specs.Option.{option_copied}
use Rattle.std.specs.Prelude.{OnOk, if◌then◌else◌}
use Rattle.wf_rows.specs.Renaming.{all_renamed}
use Rattle.wf_graph.specs.BodyRows.{reached_rows}
use Rattle.wf_graph.proofs.RowLemmas.{front_said, front_there, marked_there}
use Rattle.wf_graph.proofs.places.push_step.Goals as goal

pub returns-in-Some : goal.returns-in-Some
returns-in-Some g c = λ b by keys there.
    let reading = c.args.reading.now in
    let failing = c.args.env.now.1 in
    let place = c.args.place in
    let front = c.in-Some.front.now in
    let is = ap option_copied c.in-Some.is in
    let reached = front_there reading.blocks failing reading.method place (option_copied c.args.front) front there is in
    subst (λ (x : Bool). OnOk c.push_reached.result (c.push_reached.new.rows.items
    ≡ c.args.rows.now.items ++ all_renamed (g.C.Context.number c.args.context.now) (if x then reached_rows (g.C.Context.arrays c.args.context.now) (g.C.Context.thrown c.args.context.now) b place c.args.step.now else [])))
    (sym (marked_there reading.blocks failing reading.method b place by.flow reached))
    (c.push_reached.ensures b by keys reached (front_said reading.blocks failing reading.method b place (option_copied c.args.front) front by.flow there is))

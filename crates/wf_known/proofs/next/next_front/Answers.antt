use Rattle.std.proofs.Common.{◌+◌, ap}
use Rattle.std.specs.Option.{option_copied}
use Rattle.wf_known.proofs.Edges.{only_is, reached_behind}
use Rattle.wf_known.proofs.next.next_front.Goals as goal

pub returns-in_ok-front_along-in-Some-Some : goal.returns-in_ok-front_along-in-Some-Some
returns-in_ok-front_along-in-Some-Some c =
    let b = c.args.blocks.now in
    let step = c.in-Some-Some in
    let next = c.next_place-next.result in
    reached_behind b c.args.env.now.1 c.args.method c.args.place next (c.args.place + 1) step.edge (option_copied c.args.front) step.front.now _ c.requires.front (ap option_copied step.is-0)
    (only_is b c.args.place next c.only_edge.result step.edge step.is-1 c.only_edge.ensures) c.next_place-next.ensures c.in_ok-front_along-in-Some-Some.ensures

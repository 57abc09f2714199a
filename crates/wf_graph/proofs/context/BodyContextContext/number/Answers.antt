use Rattle.std.proofs.Common.{◌∙◌, sym, arith}
use Rattle.wf_graph.proofs.Numbers.{number_below}
use Rattle.wf_graph.proofs.context.BodyContextContext.number.Goals as goal

pub small-requires : goal.small-requires
small-requires c = λ n e.
    let x = c.args.self.now in
    let s = x.shared.now in
    let below = number_below s (record {
      below = c.shared_nodes_have_numbers_of_their_own.ensures.below s;
      apart = c.shared_nodes_have_numbers_of_their_own.ensures.apart s;
      within = c.own_nodes_have_numbers_of_their_own.ensures.within;
      own_apart = c.own_nodes_have_numbers_of_their_own.ensures.apart;
    }) x.first n x.own.now c.args.node x.behind (sym c.place.ensures ∙ e) in
    omega (arith, below, x.few)

use Rattle.wf_graph.proofs.Numbers.{one_node}
use Rattle.wf_graph.proofs.laws.nodes_have_numbers_of_their_own.Goals as goal

pub returns : goal.returns
returns c = λ s.
    one_node s (record {
      below = c.shared_nodes_have_numbers_of_their_own.ensures.below s;
      apart = c.shared_nodes_have_numbers_of_their_own.ensures.apart s;
      within = c.own_nodes_have_numbers_of_their_own.ensures.within;
      own_apart = c.own_nodes_have_numbers_of_their_own.ensures.apart;
    })

use Rattle.wf_own.proofs.NumberLaws.{own_within, one_own, own_there}
use Rattle.wf_own.proofs.laws.own_nodes_have_numbers_of_their_own.Goals as goal

pub returns : goal.returns
returns c = record { within = own_within; apart = one_own; there = own_there }

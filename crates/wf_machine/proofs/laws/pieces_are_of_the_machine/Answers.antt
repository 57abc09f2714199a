use Rattle.wf_machine.proofs.PieceLaws.{int_leads, int_only, long_leads, long_only}
use Rattle.wf_machine.proofs.laws.pieces_are_of_the_machine.Goals as goal

pub returns : goal.returns
returns c = record {
  ints = λ k s a b out are. (int_only k s a b out are, int_leads k s a b out are);
  longs = λ k s a b out are. (long_only k s a b out are, long_leads k s a b out are);
}

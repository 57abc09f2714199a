use Rattle.wf_lattice.proofs.IntLaws.{negated_compares, exchanged_compares}
use Rattle.wf_lattice.proofs.laws.comparisons_are_turned.Goals as goal

pub returns : goal.returns
returns c = record { negated = negated_compares; exchanged = exchanged_compares }

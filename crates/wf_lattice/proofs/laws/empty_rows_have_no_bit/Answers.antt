use Rattle.wf_lattice.proofs.SetLaws.{empty_from_bits, no_bits_if_empty}
use Rattle.wf_lattice.proofs.laws.empty_rows_have_no_bit.Goals as goal

pub returns : goal.returns
returns c = λ n v words. (no_bits_if_empty n v, empty_from_bits n v words)

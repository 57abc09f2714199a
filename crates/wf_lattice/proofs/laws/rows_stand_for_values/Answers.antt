use Rattle.wf_lattice.proofs.SetLaws.{order_is, order_from}
use Rattle.wf_lattice.proofs.IntLaws.{ints_are, ints_from}
use Rattle.wf_lattice.proofs.laws.rows_stand_for_values.Goals as goal

pub returns : goal.returns
returns c = record { refs = λ most n f v words. (order_is most n f v words, order_from most n f v words); ints = λ most n a b la lb s t. (ints_are most n a b, ints_from most n a b la lb s t) }

use Rattle.std.proofs.Common.{eqb-true}
use Rattle.wf_lattice.specs.Words.{words_of}
use Rattle.wf_lattice.proofs.RowLaws.{eight_are_zero}
use Rattle.wf_lattice.proofs.words.are_zero.Goals as goal

pub returns : goal.returns
returns c = λ t. eight_are_zero (words_of c.args.words.now) c.args.k (eqb-true _ _ t)

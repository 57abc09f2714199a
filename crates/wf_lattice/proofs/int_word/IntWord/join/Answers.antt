use Rattle.wf_lattice.proofs.IntLaws.{join_value, join_settled}
use Rattle.wf_lattice.proofs.int_word.IntWord.join.Goals as goal

pub returns-clause-value : goal.returns-clause-value
returns-clause-value c = join_value c.args.self.0 c.args.other.0 c.requires.left c.requires.right

pub returns-clause-settled : goal.returns-clause-settled
returns-clause-settled c = join_settled c.args.self.0 c.args.other.0 c.requires.left c.requires.right

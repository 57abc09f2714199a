use Rattle.wf_grammar.proofs.WritableLaws.{spelling_there}
use Rattle.wf_grammar.proofs.WritingLaws.{spelling_spells}
use Rattle.wf_grammar.proofs.grammar.spellings_are_exact.Goals as goal

pub returns-clause-spelled : goal.returns-clause-spelled
returns-clause-spelled c = spelling_spells

pub returns-clause-none : goal.returns-clause-none
returns-clause-none c = spelling_there

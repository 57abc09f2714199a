use Rattle.wf_grammar.proofs.ClassLaws.{read_is_spelled, spelled_is_read}
use Rattle.wf_grammar.proofs.grammar.class_files_are_read_exactly.Goals as goal

pub returns-clause-read : goal.returns-clause-read
returns-clause-read c = read_is_spelled

pub returns-clause-spelled : goal.returns-clause-spelled
returns-clause-spelled c = spelled_is_read

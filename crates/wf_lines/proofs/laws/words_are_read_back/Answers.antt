use Rattle.wf_lines.proofs.WordLaws.{words_joined, printed_words, joined_line}
use Rattle.wf_lines.proofs.laws.words_are_read_back.Goals as goal

pub returns-clause-read : goal.returns-clause-read
returns-clause-read c = words_joined

pub returns-clause-printed : goal.returns-clause-printed
returns-clause-printed c = printed_words

pub returns-clause-line : goal.returns-clause-line
returns-clause-line c = joined_line

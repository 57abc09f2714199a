use Rattle.wf_lines.proofs.MemberLaws.{member_read, member_are_words, member_printed}
use Rattle.wf_lines.proofs.laws.members_are_read_back.Goals as goal

pub returns-clause-read : goal.returns-clause-read
returns-clause-read c = member_read c.names_are_read_back.ensures.read

pub returns-clause-words : goal.returns-clause-words
returns-clause-words c = member_are_words c.names_are_read_back.ensures.printable

pub returns-clause-printed : goal.returns-clause-printed
returns-clause-printed c = member_printed c.names_are_read_back.ensures.printed

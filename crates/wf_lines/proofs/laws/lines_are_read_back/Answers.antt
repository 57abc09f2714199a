use Rattle.wf_lines.proofs.WordLaws.{printed_lines}
use Rattle.wf_lines.proofs.laws.lines_are_read_back.Goals as goal

pub returns : goal.returns
returns c = printed_lines

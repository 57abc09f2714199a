use Rattle.std.proofs.Common.{sym, arith}
use Rattle.std.proofs.lemmas.Bool.Decides.{nat_tests}
use Rattle.wf_lines.proofs.Cutting.{first_line, last_line}
use Rattle.wf_lines.proofs.lines.next_line.Goals as goal

pub returns-in-Some-clause-lines : goal.returns-in-Some-clause-lines
returns-in-Some-clause-lines c = rw c.without_return.ensures.line (first_line c.args.text.now c.in-Some.i (sym c.in-Some.ensures.first))

pub returns-in-None-2-clause-lines : goal.returns-in-None-2-clause-lines
returns-in-None-2-clause-lines c = last_line c.args.text.now (sym c.in-None.ensures.first) (let e = c.if-is_empty.ensures in grind (arith, nat_tests))

use Rattle.std.proofs.Common.{◌≡◌, ◌-◌}
use Rattle.std.specs.Prelude.{pos, ◌+ℤ◌}
use Rattle.wf_bytes.specs.Reading.{many_on}
use Rattle.wf_opcode.specs.Decoding.{table_case}
use Rattle.wf_opcode.specs.Instructions.{entries}
use Rattle.wf_bytes.proofs.Loops.{with_front_on}
use Rattle.wf_opcode.proofs.reader.Reader.table_cases.Given as goal

abbrev pub invariant-loop-i : goal.invariant-loop-i
invariant-loop-i l = with_front_on l.cases.items (many_on (table_case l.pc) (entries l.low l.high - l.i) (l.low +ℤ pos l.i) l.self.cursor) ≡ many_on (table_case l.pc) (entries l.low l.high) l.low l.fn.self.cursor

use Rattle.std.proofs.Common.{◌≡◌, ◌-◌}
use Rattle.wf_bytes.specs.Reading.{many}
use Rattle.wf_opcode.specs.Decoding.{lookup_case}
use Rattle.wf_bytes.proofs.Loops.{with_front}
use Rattle.wf_opcode.proofs.reader.Reader.lookup_cases.Given as goal

abbrev pub invariant-loop : goal.invariant-loop
invariant-loop l = with_front l.cases.items (many (lookup_case l.pc) (l.count - l.counter) l.self.cursor) ≡ many (lookup_case l.pc) l.count l.fn.self.cursor

use Rattle.std.proofs.Common.{◌≡◌, ◌-◌}
use Rattle.wf_bytes.specs.Reading.{many}
use Rattle.wf_grammar.specs.Reading.{handler}
use Rattle.wf_bytes.proofs.Loops.{with_front}
use Rattle.wf_classfile.proofs.reader.Reader.handlers.Given as goal

abbrev pub invariant-loop : goal.invariant-loop
invariant-loop l = with_front l.table.items (many handler (l.count - l.counter) l.self.cursor) ≡ many handler l.count l.fn.self.cursor

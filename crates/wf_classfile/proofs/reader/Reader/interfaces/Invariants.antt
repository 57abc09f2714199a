use Rattle.std.proofs.Common.{◌≡◌, ◌-◌}
use Rattle.wf_bytes.specs.Reading.{many}
use Rattle.wf_grammar.specs.Reading.{class_named}
use Rattle.wf_bytes.proofs.Loops.{with_front}
use Rattle.wf_classfile.proofs.reader.Reader.interfaces.Given as goal

abbrev pub invariant-loop : goal.invariant-loop
invariant-loop l = with_front l.interfaces.items (many (class_named l.pool) (l.count - l.counter) l.self.cursor) ≡ many (class_named l.pool) l.count l.fn.self.cursor

use Rattle.std.proofs.Common.{◌≡◌, ◌-◌}
use Rattle.wf_bytes.specs.Reading.{many_on}
use Rattle.wf_grammar.specs.Reading.{field}
use Rattle.wf_bytes.proofs.Loops.{with_front_on}
use Rattle.wf_classfile.proofs.reader.Reader.fields.Given as goal

abbrev pub invariant-loop : goal.invariant-loop
invariant-loop l = record {
  so_far : with_front_on l.fields.items (many_on (field l.pool) (l.count - l.counter) l.members.met l.self.cursor) ≡ many_on (field l.pool) l.count l.fn.members.met l.fn.self.cursor;
  pool : l.members.pool ≡ l.pool;
}

use Rattle.std.proofs.Common.{◌≡◌, ◌-◌}
use Rattle.wf_bytes.specs.Reading.{times}
use Rattle.wf_grammar.specs.Reading.{skipped}
use Rattle.wf_classfile.proofs.reader.Reader.skip_attributes.Given as goal

abbrev pub invariant-loop : goal.invariant-loop
invariant-loop l = times (skipped l.pool) (l.count - l.counter) tt l.self.cursor ≡ times (skipped l.pool) l.count tt l.fn.self.cursor

use Rattle.std.proofs.Common.{◌≡◌, ◌-◌, None}
use Rattle.wf_bytes.specs.Reading.{times}
use Rattle.wf_grammar.specs.Reading.{field_attribute}
use Rattle.wf_classfile.proofs.reader.Reader.field_attributes.Given as goal

abbrev pub invariant-loop : goal.invariant-loop
invariant-loop l = times (field_attribute l.pool l.is_static l.desc) (l.count - l.counter) l.constant l.self.cursor ≡ times (field_attribute l.pool l.is_static l.desc) l.count None l.fn.self.cursor

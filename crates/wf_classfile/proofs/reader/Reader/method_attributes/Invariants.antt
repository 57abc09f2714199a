use Rattle.std.proofs.Common.{◌≡◌, ◌-◌}
use Rattle.wf_bytes.specs.Reading.{many}
use Rattle.wf_grammar.specs.Reading.{method_attribute}
use Rattle.wf_classfile.specs.declared.codes.Codes.TheVariants.{Missing}
use Rattle.wf_classfile.specs.OnlyCode.{with_codes}
use Rattle.wf_classfile.proofs.reader.Reader.method_attributes.Given as goal

abbrev pub invariant-loop : goal.invariant-loop
invariant-loop l = with_codes l.codes (many (method_attribute l.pool) (l.count - l.counter) l.self.cursor) ≡ with_codes Missing (many (method_attribute l.pool) l.count l.fn.self.cursor)

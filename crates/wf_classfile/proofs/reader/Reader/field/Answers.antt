use Rattle.wf_classfile.proofs.MemberLaws.{numbered}
use Rattle.wf_classfile.proofs.reader.Reader.field.Goals as goal

pub insert-requires-clause-name : goal.insert-requires-clause-name
insert-requires-clause-name c = c.text-2.ensures.grows.kept _ _ (numbered c.text.new.self.numbers c.in_ok-text.field-0 c.in_ok-name.name c.in_ok-name.ensures.ok_part c.in_ok-text.ensures.number)

pub insert-requires-clause-desc : goal.insert-requires-clause-desc
insert-requires-clause-desc c = numbered c.text-2.new.self.numbers c.in_ok-text-2.field-0 c.in_ok-desc.desc c.in_ok-desc.ensures.ok_part c.in_ok-text-2.ensures.number

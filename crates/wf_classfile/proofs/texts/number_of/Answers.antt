use Rattle.std.proofs.Common.{sym}
use Rattle.wf_classfile.proofs.NumberLaws.{one_more}
use Rattle.wf_classfile.proofs.texts.number_of.Goals as goal

pub returns-clause-adds : goal.returns-clause-adds
returns-clause-adds c = one_more c.args.numbers.now c.insert.new.self c.in_ok-clone.field-0 c.args.text.now c.args.place c.in_ok-clone.ensures.cases (sym c.in_default.ensures.value) c.in_ok-insert.ensures.updates

use Rattle.wf_classfile.proofs.MemberLaws.{still_numbers}
use Rattle.wf_classfile.proofs.members.Members.text.Goals as goal

pub invariant_of-self : goal.invariant_of-self
invariant_of-self c = (c.see.ensures.stand, still_numbers c.self.inside.texts.pool c.see.new.self.pool c.self.inside.texts.numbers c.see.new.self.numbers c.self.inside.met c.see.ensures.pool c.see.ensures.grows c.self.invariant.1)

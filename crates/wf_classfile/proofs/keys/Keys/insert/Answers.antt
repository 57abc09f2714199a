use Rattle.wf_classfile.proofs.Lists.{any_map}
use Rattle.wf_classfile.proofs.keys.Keys.insert.Goals as goal

pub returns-clause-added : goal.returns-clause-added
returns-clause-added c = rw (← c.self.view_is, any_map) c.in_ok-insert.ensures.added

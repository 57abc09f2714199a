use Rattle.wf_first.proofs.ListLaws.{any_map}
use Rattle.wf_first.proofs.calls.Statics.has.Goals as goal

pub returns : goal.returns
returns c = rw (← c.self.view_is, any_map) c.contains.ensures

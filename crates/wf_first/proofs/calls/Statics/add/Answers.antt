use Rattle.std.proofs.Common.{ap, map, ◌∙◌}
use Rattle.wf_names.specs.Members.{named_by}
use Rattle.wf_first.proofs.StaticLaws.{names_added}
use Rattle.wf_first.proofs.calls.Statics.add.Goals as goal

pub returns : goal.returns
returns c = rw (← c.self.view_is) (ap (map named_by) c.in_ok-insert.ensures.keys ∙ names_added c.self.inside.methods.keys c.args.method)

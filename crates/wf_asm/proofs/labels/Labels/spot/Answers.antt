use Rattle.std.proofs.Common.{◌∙◌}
use Rattle.wf_asm.proofs.LabelLaws.{is_found}
use Rattle.wf_asm.proofs.labels.Labels.spot.Goals as goal

pub returns : goal.returns
returns c = c.copied.ensures ∙ c.get.ensures.value ∙ is_found c.args.name.now c.self.inside.places.entries c.args.self.now c.self.view_is

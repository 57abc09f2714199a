use Rattle.std.proofs.Common.{◌∙◌, length, ap}
use Rattle.wf_subtype.specs.References.{target_count}
use Rattle.wf_subtype.specs.Subtypes.{AllTypes}
use Rattle.wf_subtype.proofs.types.Types.targets.Goals as goal

pub returns : goal.returns
returns c = c.targets.ensures ∙ c.self.invariant.masks.count ∙ ap (λ (v : AllTypes). target_count (length v.classes) v.deepest) c.self.view_is

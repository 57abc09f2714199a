use Rattle.std.proofs.Common.{ap, ◌∙◌}
use Rattle.wf_classes.specs.World.{class_of}
use Rattle.wf_subtype.proofs.rows.array_classes.Goals as goal

pub returns : goal.returns
returns c = record {
  object = c.find.ensures ∙ ap (class_of c.args.classes.now) c.as_slice.ensures;
  cloneable = c.find-2.ensures ∙ ap (class_of c.args.classes.now) c.as_slice-2.ensures;
  serializable = c.find-3.ensures ∙ ap (class_of c.args.classes.now) c.as_slice-3.ensures;
}

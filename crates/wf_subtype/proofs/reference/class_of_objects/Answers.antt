use Rattle.std.proofs.Common.{◌≡◌, ◌≢◌, ℕ, zero, suc, List, refl, sym, ap, ◌∙◌, arith}
use Rattle.wf_names.specs.Names.{object_name}
use Rattle.wf_classes.specs.World.{class_of}
use Rattle.wf_subtype.proofs.ObjectClass.{of_array}
use Rattle.wf_subtype.proofs.reference.class_of_objects.Goals as goal

pub returns-then-r-ne0 : goal.returns-then-r-ne0
returns-then-r-ne0 c = (c.find.ensures ∙ ap (class_of c.args.classes.now) c.as_slice.ensures) ∙ sym (of_array c.args.classes.now c.args.r.dims c.args.r.inner (omega (arith, c.if-r-ne0.true)))

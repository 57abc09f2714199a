use Rattle.std.proofs.Common.{◌∙◌, List, ℕ, Some, ap, sym, arith}
use Rattle.wf_classes.specs.World.{number_in}
use Rattle.wf_subtype.proofs.Naming.{refers_class, refers_no_class, refers_too_deep, refers_array, refers_no_array, tail_whole}
use Rattle.wf_subtype.proofs.reference.reference_of.Goals as goal

pub returns-in-Some : goal.returns-in-Some
returns-in-Some c = refers_class c.args.classes.now c.args.name.now c.in-Some.c (ap number_in (sym c.in-Some.is) ∙ c.find.ensures)

pub returns-in-None : goal.returns-in-None
returns-in-None c = refers_no_class c.args.classes.now c.args.name.now c.requires (sym c.brackets-dims.ensures ∙ c.if-dims-eq0.true) (sym c.find.ensures ∙ ap number_in c.in-None.is)

pub returns-then-dims-gt255 : goal.returns-then-dims-gt255
returns-then-dims-gt255 c = refers_too_deep c.args.classes.now c.args.name.now c.requires (omega (arith, c.brackets-dims.ensures, c.if-dims-gt255.true))

pub returns-in-Some-inner_of : goal.returns-in-Some-inner_of
returns-in-Some-inner_of c = refers_array c.args.classes.now c.args.name.now c.brackets-dims.result c.in-Some-inner_of.inner c.brackets-dims.ensures c.if-dims-eq0.false (omega (arith, c.if-dims-gt255.false)) (c.in-Some-inner_of.ensures ∙ ap (λ (t : List ℕ). Some t) (tail_whole c.brackets-dims.result c.args.name.now))

pub returns-in-None-inner_of : goal.returns-in-None-inner_of
returns-in-None-inner_of c = refers_no_array c.args.classes.now c.args.name.now c.brackets-dims.result c.requires c.brackets-dims.ensures c.if-dims-eq0.false (λ x e. c.in-None-inner_of.ensures x (e ∙ ap (λ (t : List ℕ). Some t) (sym (tail_whole c.brackets-dims.result c.args.name.now))))

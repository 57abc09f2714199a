use Rattle.std.proofs.Common.{◌∙◌, Option, sym, subst}
use Rattle.std.specs.Prelude.{IfSome, option_map}
use Rattle.wf_grammar.specs.ClassFile.{Key}
use Rattle.wf_classes.specs.World.{number}
use Rattle.wf_classes.specs.declared.own.OwnMethod.{OwnMethod}
use Rattle.wf_resolve.specs.Upward.{IsOwn}
use Rattle.wf_select.specs.Selection.{Taken, concrete, abstract}
use Rattle.wf_select.specs.declared.outcome.Selected.TheVariants.{Method, AbstractMethod}
use Rattle.wf_select.proofs.outcome.taken.Goals as goal

pub returns-then-is_abstract : goal.returns-then-is_abstract
returns-then-is_abstract c =
    let key : Key = (c.args.name.now, c.args.desc.now) in
    let m = c.in-Some.method in
    let is = subst (λ (o : Option OwnMethod). IfSome o (λ m. IsOwn c.args.classes.now key m)) c.in-Some.is c.requires.own in
    subst (λ (o : Option OwnMethod). Taken c.args.classes.now key c.args.c.0 (option_map (λ (m : OwnMethod). number m.class) o) AbstractMethod) (sym c.in-Some.is)
    (abstract (number m.class) m.flags is.flagged (sym c.is_abstract.ensures ∙ c.if-is_abstract.true))

pub returns-else-is_abstract : goal.returns-else-is_abstract
returns-else-is_abstract c =
    let key : Key = (c.args.name.now, c.args.desc.now) in
    let m = c.in-Some.method in
    let is = subst (λ (o : Option OwnMethod). IfSome o (λ m. IsOwn c.args.classes.now key m)) c.in-Some.is c.requires.own in
    subst (λ (o : Option OwnMethod). Taken c.args.classes.now key c.args.c.0 (option_map (λ (m : OwnMethod). number m.class) o) (Method m.id)) (sym c.in-Some.is)
    (concrete (number m.class) m.flags m.id is.flagged (sym c.is_abstract.ensures ∙ c.if-is_abstract.false) is.numbered)

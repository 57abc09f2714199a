use Rattle.std.proofs.Common.{◌≡◌, ◌∙◌, ℕ, true, List, Option, Some, None, sym, ap, subst}
use Rattle.std.specs.Prelude.{option_map, IfSome, IfNone}
use Rattle.wf_base.specs.declared.ids.ClassId.{ClassId}
use Rattle.wf_data.specs.declared.class_info.ClassInfo.{ClassInfo}
use Rattle.wf_grammar.specs.ClassFile.{Key}
use Rattle.wf_classes.specs.World.{number, kind_at}
use Rattle.wf_classes.specs.declared.own.OwnMethod.{OwnMethod}
use Rattle.wf_resolve.specs.Methods.{IsOfObject}
use Rattle.wf_resolve.specs.Upward.{Offers}
use Rattle.wf_resolve.specs.declared.upward.Wanted.TheVariants.{OfInstance}
use Rattle.wf_select.specs.Selection.{FirstSpecial, of_class, own, by_object, nothing}
use Rattle.wf_select.proofs.invokespecial.first_special.Goals as goal

pub returns-then-not-is_interface_at-clause-first : goal.returns-then-not-is_interface_at-clause-first
returns-then-not-is_interface_at-clause-first c =
    of_class (option_map (λ (m : OwnMethod). number m.class) c.first_up.result) (c.is_interface_at.ensures ∙ ap (λ b. Some b) c.if-not-is_interface_at.true) c.first_up.ensures.first

pub returns-in-Some-clause-first : goal.returns-in-Some-clause-first
returns-in-Some-clause-first c =
    let key : Key = (c.args.name.now, c.args.desc.now) in
    subst (λ (x : ClassId). FirstSpecial c.args.classes.now key c.args.c.0 (Some (number x))) (sym c.in-Some.ensures.class)
    (own (c.is_interface_at.ensures ∙ ap (λ b. Some b) c.if-not-is_interface_at.false) c.in-Some.ensures.some)

object_or_none : (classes : List ClassInfo) (key : Key) (c : ℕ) (o : Option OwnMethod) → kind_at classes c ≡ Some true → (Offers classes key OfInstance c → ⊥) → IfSome o (λ m. IsOfObject classes key (number m.class)) → IfNone o ((x : ℕ) → IsOfObject classes key x → ⊥) → FirstSpecial classes key c (option_map (λ (m : OwnMethod). number m.class) o)
object_or_none classes key c None k n some none = nothing k n none
object_or_none classes key c (Some m) k n some none = by_object (number m.class) k n some

pub returns-in-None-clause-first : goal.returns-in-None-clause-first
returns-in-None-clause-first c =
    object_or_none c.args.classes.now (c.args.name.now, c.args.desc.now) c.args.c.0 c.method_of_object.result (c.is_interface_at.ensures ∙ ap (λ b. Some b) c.if-not-is_interface_at.false) c.in-None.ensures.none c.method_of_object.ensures.some c.method_of_object.ensures.none

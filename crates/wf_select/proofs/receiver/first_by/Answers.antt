use Rattle.std.proofs.Common.{◌≡◌, ◌∙◌, ℕ, List, sym, ap, subst}
use Rattle.std.specs.Prelude.{option_map}
use Rattle.wf_grammar.specs.ClassFile.{Key}
use Rattle.wf_classes.specs.World.{number}
use Rattle.wf_classes.specs.Members.{method_key}
use Rattle.wf_classes.specs.declared.own.OwnMethod.{OwnMethod}
use Rattle.wf_select.specs.Selection.{FirstBy}
use Rattle.wf_select.specs.declared.outcome.Invoke.{Invoke}
use Rattle.wf_select.specs.declared.outcome.Invoke.TheVariants.{Virtual, Interface}
use Rattle.wf_select.proofs.receiver.first_by.Goals as goal

-- a name and a descriptor that are read
read : (name desc own_name own_desc : List ℕ) → name ≡ own_name → desc ≡ own_desc → (let a : Key = (name, desc) in let b : Key = (own_name, own_desc) in a ≡ b)
read name desc own_name own_desc e f = ap (λ (x : List ℕ). (x, desc)) e ∙ ap (λ (y : List ℕ). (own_name, y)) f

pub returns-in-Interface-clause-first : goal.returns-in-Interface-clause-first
returns-in-Interface-clause-first c =
    let info = c.args.declared.now.info.now in
    let a = c.args.declared.now.class.0 in
    let r = option_map (λ (m : OwnMethod). number m.class) c.first_up.result in
    subst (λ (b : Invoke). FirstBy c.args.classes.now (method_key info) a b c.args.t.0 r) (sym c.in-Interface.is)
    (subst (λ (k : Key). FirstBy c.args.classes.now k a Interface c.args.t.0 r) (read c.as_slice-name.result.now c.as_slice-desc.result.now info.name info.desc c.as_slice-name.ensures c.as_slice-desc.ensures) c.first_up.ensures.first)

pub returns-in-Virtual-clause-first : goal.returns-in-Virtual-clause-first
returns-in-Virtual-clause-first c =
    let info = c.args.declared.now.info.now in
    let a = c.args.declared.now.class.0 in
    let r = option_map (λ (m : OwnMethod). number m.class) c.first_overriding.result in
    subst (λ (b : Invoke). FirstBy c.args.classes.now (method_key info) a b c.args.t.0 r) (sym c.in-Virtual.is)
    (subst (λ (k : Key). FirstBy c.args.classes.now k a Virtual c.args.t.0 r) (read c.as_slice-name.result.now c.as_slice-desc.result.now info.name info.desc c.as_slice-name.ensures c.as_slice-desc.ensures) c.first_overriding.ensures.first)

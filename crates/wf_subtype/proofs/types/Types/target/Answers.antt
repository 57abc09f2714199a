use Rattle.std.proofs.Common.{◌≡◌, ◌∙◌, ◌+◌, ◌<◌, List, ℕ, length, sym, ap, subst}
use Rattle.wf_data.specs.declared.class_info.ClassInfo.{ClassInfo}
use Rattle.wf_subtype.specs.References.{inner_number, target_number, target_count}
use Rattle.wf_subtype.specs.Subtypes.{AllTypes}
use Rattle.wf_subtype.proofs.Numbers.{number_within}
use Rattle.wf_subtype.proofs.TypeFacts.{deepest_small, refers_inside}
use Rattle.wf_subtype.proofs.types.Types.target.Goals as goal

pub target_number-requires-clause-shallow : goal.target_number-requires-clause-shallow
target_number-requires-clause-shallow c =
    let i = c.self.inside in
    deepest_small i.classes i.names.items i.references.items i.deepest c.self.invariant.named c.self.invariant.depth

pub target_number-requires-clause-inside : goal.target_number-requires-clause-inside
target_number-requires-clause-inside c =
    subst (λ (ks : List ClassInfo). inner_number (length ks) c.in-Some.r.inner < length ks + 8) (sym (c.as_slice.ensures ∙ c.list.ensures.same))
    (refers_inside c.self.inside.classes c.args.name.now c.in-Some.r c.in-Some.ensures)

pub returns-in-Some-clause-within : goal.returns-in-Some-clause-within
returns-in-Some-clause-within c =
    let classes = c.self.inside.classes in
    let n : ℕ = c.target_number.result in
    let number : n ≡ target_number (length classes) c.self.inside.deepest c.in-Some.r =
    c.target_number.ensures ∙ ap (λ (ks : List ClassInfo). target_number (length ks) c.self.inside.deepest c.in-Some.r) (c.as_slice.ensures ∙ c.list.ensures.same) in
    subst (λ (v : AllTypes). n < target_count (length v.classes) v.deepest) c.self.view_is
    (subst (λ k. k < target_count (length classes) c.self.inside.deepest) (sym number) (number_within (length classes) c.self.inside.deepest c.in-Some.r (refers_inside classes c.args.name.now c.in-Some.r c.in-Some.ensures)))

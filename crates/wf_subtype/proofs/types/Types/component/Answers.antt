use Rattle.std.proofs.Common.{◌≡◌, ◌∙◌, ◌+◌, ◌-◌, ◌<◌, List, ℕ, Option, Some, None, length, refl, sym, ap, subst, arith}
use Rattle.std.specs.Prelude.{slice_get}
use Rattle.std.proofs.lemmas.Option.{slice_get_read}
use Rattle.wf_data.specs.declared.class_info.ClassInfo.{ClassInfo}
use Rattle.wf_subtype.specs.declared.reference.Inner.{Inner}
use Rattle.wf_subtype.specs.declared.reference.Reference.{Reference}
use Rattle.wf_subtype.specs.References.{inner_number, target_number, target_count}
use Rattle.wf_subtype.specs.Subtypes.{AllTypes, IsNumberOf}
use Rattle.wf_subtype.proofs.Numbers.{number_within}
use Rattle.wf_subtype.proofs.TypeFacts.{deepest_small, component_inner, component_known, reference_inside}
use Rattle.wf_subtype.proofs.types.Types.component.Goals as goal

pub target_number-requires-clause-shallow : goal.target_number-requires-clause-shallow
target_number-requires-clause-shallow c =
    let i = c.self.inside in
    deepest_small i.classes i.names.items i.references.items i.deepest c.self.invariant.named c.self.invariant.depth

pub target_number-requires-clause-inside : goal.target_number-requires-clause-inside
target_number-requires-clause-inside c =
    let all = c.self.inside.references.items in
    let classes = c.self.inside.classes in
    let i : ℕ = c.args.t.0 - 1 in
    let x = c.index.result.now in
    let there : slice_get all i ≡ Some x = slice_get_read all (length all) i x refl (omega (arith, c.requires.some, c.requires.there, c.self.invariant.named.count, ap (λ (v : AllTypes). length v.names) c.self.view_is)) c.index.ensures in
    let inner = component_inner x c.in-Some.r (sym c.in-Some.ensures) in
    subst (λ (ks : List ClassInfo). inner_number (length ks) c.in-Some.r.inner < length ks + 8) (sym (c.as_slice.ensures ∙ c.list.ensures.same))
    (subst (λ (y : Inner). inner_number (length classes) y < length classes + 8) (sym inner) (reference_inside classes c.self.inside.names.items all i x c.self.invariant.named there))

pub returns-in-Some-clause-number : goal.returns-in-Some-clause-number
returns-in-Some-clause-number c r at =
    let all = c.self.inside.references.items in
    let i : ℕ = c.args.t.0 - 1 in
    let x = c.index.result.now in
    let n : ℕ = c.target_number.result in
    let found = c.in-Some.r in
    let there : slice_get all i ≡ Some x = slice_get_read all (length all) i x refl (omega (arith, c.requires.some, c.requires.there, c.self.invariant.named.count, ap (λ (v : AllTypes). length v.names) c.self.view_is)) c.index.ensures in
    let same : slice_get all i ≡ Some r = ap (λ (v : AllTypes). slice_get v.references i) c.self.view_is ∙ at in
    let known = component_known all i x r (Some found) there same c.in-Some.ensures in
    subst (λ (o : Option Reference). IsNumberOf c.args.self.now o (Some n)) (sym known)
    (record {
      number = c.target_number.ensures
          ∙ ap (λ (ks : List ClassInfo). target_number (length ks) c.self.inside.deepest found) (c.as_slice.ensures ∙ c.list.ensures.same)
          ∙ ap (λ (v : AllTypes). target_number (length v.classes) v.deepest found) c.self.view_is;
    })

pub returns-in-Some-clause-within : goal.returns-in-Some-clause-within
returns-in-Some-clause-within c =
    let all = c.self.inside.references.items in
    let classes = c.self.inside.classes in
    let i : ℕ = c.args.t.0 - 1 in
    let x = c.index.result.now in
    let n : ℕ = c.target_number.result in
    let there : slice_get all i ≡ Some x = slice_get_read all (length all) i x refl (omega (arith, c.requires.some, c.requires.there, c.self.invariant.named.count, ap (λ (v : AllTypes). length v.names) c.self.view_is)) c.index.ensures in
    let inner = component_inner x c.in-Some.r (sym c.in-Some.ensures) in
    let small = subst (λ (y : Inner). inner_number (length classes) y < length classes + 8) (sym inner) (reference_inside classes c.self.inside.names.items all i x c.self.invariant.named there) in
    let number : n ≡ target_number (length classes) c.self.inside.deepest c.in-Some.r =
    c.target_number.ensures ∙ ap (λ (ks : List ClassInfo). target_number (length ks) c.self.inside.deepest c.in-Some.r) (c.as_slice.ensures ∙ c.list.ensures.same) in
    subst (λ (v : AllTypes). n < target_count (length v.classes) v.deepest) c.self.view_is
    (subst (λ k. k < target_count (length classes) c.self.inside.deepest) (sym number) (number_within (length classes) c.self.inside.deepest c.in-Some.r small))

pub returns-in-None-clause-number : goal.returns-in-None-clause-number
returns-in-None-clause-number c r at =
    let all = c.self.inside.references.items in
    let i : ℕ = c.args.t.0 - 1 in
    let x = c.index.result.now in
    let there : slice_get all i ≡ Some x = slice_get_read all (length all) i x refl (omega (arith, c.requires.some, c.requires.there, c.self.invariant.named.count, ap (λ (v : AllTypes). length v.names) c.self.view_is)) c.index.ensures in
    let same : slice_get all i ≡ Some r = ap (λ (v : AllTypes). slice_get v.references i) c.self.view_is ∙ at in
    let known = component_known all i x r None there same c.in-None.ensures in
    subst (λ (o : Option Reference). IsNumberOf c.args.self.now o None) (sym known) refl

use Rattle.std.proofs.Common.{◌≡◌, ◌∙◌, ◌+◌, ◌-◌, ◌<◌, List, ℕ, Option, Some, length, refl, sym, ap, subst, arith}
use Rattle.std.specs.Prelude.{slice_get}
use Rattle.std.proofs.lemmas.Option.{slice_get_read}
use Rattle.wf_subtype.specs.Subtypes.{AllTypes, IsClassOfType}
use Rattle.wf_subtype.proofs.ObjectClass.{type_there, is_there, is_number, same_class}
use Rattle.wf_subtype.proofs.types.Types.class_of.Goals as goal

pub unwrap-requires : goal.unwrap-requires
unwrap-requires c =
    let all = c.self.inside.references.items in
    let i : ℕ = c.args.t.0 - 1 in
    let x = c.index.result.now in
    let there : slice_get all i ≡ Some x = slice_get_read all (length all) i x refl (omega (arith, c.requires.some, c.requires.there, c.self.invariant.named.count, ap (λ (v : AllTypes). length v.names) c.self.view_is)) c.index.ensures in
    let has = type_there c.self.inside.classes c.self.inside.names.items all i x c.self.invariant.world c.self.invariant.named there in
    is_there has.0 c.class_of_objects.result (c.class_of_objects.ensures ∙ has.1)

pub returns-clause-class : goal.returns-clause-class
returns-clause-class c =
    let all = c.self.inside.references.items in
    let i : ℕ = c.args.t.0 - 1 in
    let x = c.index.result.now in
    let there : slice_get all i ≡ Some x = slice_get_read all (length all) i x refl (omega (arith, c.requires.some, c.requires.there, c.self.invariant.named.count, ap (λ (v : AllTypes). length v.names) c.self.view_is)) c.index.ensures in
    subst (λ (v : AllTypes). IsClassOfType v c.args.t.0 c.unwrap.result.0) c.self.view_is
    (record { reference = x; there = there; class = sym c.class_of_objects.ensures ∙ is_number c.class_of_objects.result c.unwrap.result c.unwrap.ensures })

pub returns-clause-within : goal.returns-clause-within
returns-clause-within c =
    let all = c.self.inside.references.items in
    let i : ℕ = c.args.t.0 - 1 in
    let x = c.index.result.now in
    let there : slice_get all i ≡ Some x = slice_get_read all (length all) i x refl (omega (arith, c.requires.some, c.requires.there, c.self.invariant.named.count, ap (λ (v : AllTypes). length v.names) c.self.view_is)) c.index.ensures in
    let has = type_there c.self.inside.classes c.self.inside.names.items all i x c.self.invariant.world c.self.invariant.named there in
    let same : has.0 ≡ c.unwrap.result.0 = same_class has.0 c.unwrap.result.0 (sym has.1 ∙ sym c.class_of_objects.ensures ∙ is_number c.class_of_objects.result c.unwrap.result c.unwrap.ensures) in
    omega (arith, has.2, same, ap (λ (v : AllTypes). length v.classes) c.self.view_is)

use Rattle.std.proofs.Common.{◌≡◌, ◌+◌, length, refl, sym, subst, arith, List, ℕ, Some}
use Rattle.std.specs.Prelude.{slice_get}
use Rattle.std.proofs.lemmas.Option.{slice_get_read}
use Rattle.wf_subtype.specs.declared.reference.Reference.{Reference}
use Rattle.wf_subtype.specs.Subtypes.{IsNameOfSome, AreFirstReferences}
use Rattle.wf_subtype.specs.References.{Refers}
use Rattle.wf_subtype.proofs.TypeFacts.{first_none, first_more, first_all, is_some, some_refers}
use Rattle.wf_subtype.proofs.types.references_of.Goals as goal

pub loop-name-init : goal.loop-name-init
loop-name-init c = subst (λ (xs : List Reference). AreFirstReferences c.args.classes.now c.args.names.now 0 xs) (sym c.new-references.ensures.items) (first_none c.args.classes.now c.args.names.now)

pub unwrap-requires : goal.unwrap-requires
unwrap-requires c =
    let classes = c.args.classes.now in
    let names = c.args.names.now in
    let i = c.loop-name.name-index in
    let x = c.name-item.result in
    let there : slice_get names i ≡ Some x = slice_get_read names (length names) i x refl c.loop-name-test.true c.name-item.is in
    is_some classes c.as_slice.result.now c.reference_of.result (subst (IsNameOfSome classes) (sym c.as_slice.ensures) (c.requires.named i x there)) c.reference_of.ensures

pub loop-name-preserved : goal.loop-name-preserved
loop-name-preserved c =
    let classes = c.args.classes.now in
    let names = c.args.names.now in
    let i = c.loop-name.name-index in
    let x = c.name-item.result in
    let there : slice_get names i ≡ Some x = slice_get_read names (length names) i x refl c.loop-name-test.true c.name-item.is in
    let u = c.unwrap.ensures in
    let refers : Refers classes x c.unwrap.result = subst (λ (n : List ℕ). Refers classes n c.unwrap.result) c.as_slice.ensures (some_refers classes c.as_slice.result.now c.reference_of.result c.unwrap.result u c.reference_of.ensures) in
    subst (λ (xs : List Reference). AreFirstReferences classes names (i + 1) xs) (sym c.in_ok-push.ensures.items) (first_more classes names i c.loop-name.references.items x c.unwrap.result there refers c.loop-name.invariant)

pub returns : goal.returns
returns c = first_all c.args.classes.now c.args.names.now c.loop-name.name-index c.loop-name.references.items (omega (arith, c.loop-name-test.false, c.loop-name.auto.name-index-end)) c.loop-name.invariant

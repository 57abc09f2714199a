use Rattle.std.proofs.Common.{get_or, inl, inr}
use Rattle.std.proofs.lemmas.Option.{slice_get-get_or}
use Rattle.wf_subtype.specs.declared.reference.Inner.TheVariants.{Class}
use Rattle.wf_subtype.specs.declared.reference.Reference.{Reference}
use Rattle.wf_subtype.proofs.TypeFacts.{deepest_more, deepest_all}
use Rattle.wf_subtype.proofs.types.deepest_of.Goals as goal
use Rattle.wf_subtype.proofs.types.deepest_of.Goals.{then-deepest-r, else-deepest-r}

abbrev no_reference : Reference
no_reference = record { dims = 0; inner = Class (record { 0 = 0 }) }

pub loop-r-preserved : goal.loop-r-preserved
loop-r-preserved c =
    let all = c.args.references.now in
    let i = c.loop-r.r-index in
    let r = get_or all i no_reference in
    let there = slice_get-get_or all i no_reference c.loop-r-test.true in
    elim c.if-deepest-r.branch [
      | then-deepest-r w ↦ deepest_more all i c.loop-r.deepest c.if-deepest-r.deepest r there c.loop-r.invariant (inl (w.if-deepest-r.true, w.deepest-is))
      | else-deepest-r w ↦ deepest_more all i c.loop-r.deepest c.if-deepest-r.deepest r there c.loop-r.invariant (inr (w.if-deepest-r.false, w.deepest-is))
    ]

pub returns : goal.returns
returns c = deepest_all c.args.references.now c.loop-r.r-index c.loop-r.deepest c.loop-r-test.false c.loop-r.invariant

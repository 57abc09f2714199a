use Rattle.std.proofs.Common.{◌≡◌, ◌+◌, ◌*◌, ◌<◌, ◌≤◌, List, ℕ, Some, get_or, length, sym, subst, arith}
use Rattle.std.specs.Prelude.{slice_get}
use Rattle.std.proofs.lemmas.Option.{slice_get-get_or}
use Rattle.wf_subtype.specs.declared.reference.Inner.TheVariants.{Class}
use Rattle.wf_subtype.specs.declared.reference.Reference.{Reference}
use Rattle.wf_subtype.specs.Rows.{Puts, IsBitBelow}
use Rattle.wf_subtype.proofs.RowBits.{bits_more}
use Rattle.wf_subtype.proofs.rows.put_types.Goals as goal

abbrev no_reference : Reference
no_reference = record { dims = 0; inner = Class (record { 0 = 0 }) }

pub put_type-requires-clause-inside : goal.put_type-requires-clause-inside
put_type-requires-clause-inside c =
    let references = c.args.references.now in
    let i = c.loop-i.i in
    let x = get_or references i no_reference in
    let there : slice_get references i ≡ Some x = slice_get-get_or references i no_reference c.loop-i-test.true in
    subst (λ n. (x.dims + 1) * (length c.args.classes.now + 8) ≤ n) (sym c.loop-i.invariant.count) (c.requires.inside i x there)

pub put_type-requires-clause-room : goal.put_type-requires-clause-room
put_type-requires-clause-room c = omega (arith, c.loop-i-test.true, c.loop-i.invariant.width, c.requires.room)

pub loop-i-preserved : goal.loop-i-preserved
loop-i-preserved c =
    let references = c.args.references.now in
    let i = c.loop-i.i in
    let x = get_or references i no_reference in
    let there : slice_get references i ≡ Some x = slice_get-get_or references i no_reference c.loop-i-test.true in
    bits_more c.args.classes.now references i x c.args.rows.now c.loop-i.rows c.put_type.new.rows there c.loop-i.invariant c.in_ok-put_type.ensures

pub returns : goal.returns
returns c =
    let references = c.args.references.now in
    let end : c.loop-i.i ≡ length references = omega (arith, c.loop-i-test.false, c.loop-i.auto.i-end) in
    subst (λ n. Puts c.args.rows.now c.loop-i.rows (IsBitBelow c.args.classes.now references n)) end c.loop-i.invariant

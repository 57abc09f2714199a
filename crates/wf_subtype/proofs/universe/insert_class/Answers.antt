use Rattle.std.proofs.Common.{◌≡◌, List, length, refl, sym, ap, ◌∙◌, Some}
use Rattle.std.specs.Prelude.{slice_get}
use Rattle.std.proofs.lemmas.Option.{slice_get_read}
use Rattle.wf_data.specs.declared.class_info.MethodInfo.{MethodInfo}
use Rattle.wf_subtype.specs.Universe.{MethodMakes}
use Rattle.wf_subtype.proofs.Collecting.{below_none, below_more, at_one, At}
use Rattle.wf_subtype.proofs.Making.{class_makes}
use Rattle.wf_subtype.proofs.universe.insert_class.Goals as goal

pub loop-method-init : goal.loop-method-init
loop-method-init c = below_none c.args.classes.now c.args.types.now.keys (At c.as_slice-method-items.result.now (MethodMakes c.as_slice-pool.result.now))

pub insert_method-requires-clause-short : goal.insert_method-requires-clause-short
insert_method-requires-clause-short c =
    let methods = c.as_slice-method-items.result.now in
    let i = c.loop-method.method-index in
    let x = c.method-item.result in
    let there : slice_get methods i ≡ Some x = slice_get_read methods (length methods) i x refl c.loop-method-test.true c.method-item.is in
    c.requires.short.each i x (ap (λ (ms : List MethodInfo). slice_get ms i) (sym c.as_slice-method-items.ensures) ∙ there)

pub loop-method-preserved : goal.loop-method-preserved
loop-method-preserved c =
    let methods = c.as_slice-method-items.result.now in
    let pool = c.as_slice-pool.result.now in
    let i = c.loop-method.method-index in
    let x = c.method-item.result in
    below_more c.args.classes.now c.args.types.now.keys c.loop-method.types.keys c.insert_method.new.types.keys (At methods (MethodMakes pool)) i c.loop-method.invariant
    (at_one c.args.classes.now c.loop-method.types.keys c.insert_method.new.types.keys methods (MethodMakes pool) i x (slice_get_read methods (length methods) i x refl c.loop-method-test.true c.method-item.is) c.in_ok-insert_method.ensures)

pub returns : goal.returns
returns c = class_makes c.args.classes.now c.args.types.now.keys c.loop-method.types.keys c.args.class.now c.as_slice-method-items.result.now c.as_slice-pool.result.now c.loop-method.method-index c.as_slice-method-items.ensures c.as_slice-pool.ensures c.loop-method-test.false c.loop-method.invariant

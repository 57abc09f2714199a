use Rattle.std.proofs.Common.{length, refl, arith}
use Rattle.std.proofs.lemmas.Option.{slice_get_read}
use Rattle.wf_subtype.specs.Universe.{HasObjects, IsInstantiable}
use Rattle.wf_subtype.proofs.Collecting.{plain_none, plain_more, plain_at, plain_over, At}
use Rattle.wf_subtype.proofs.universe.insert_instantiable.Goals as goal

pub loop-class-init : goal.loop-class-init
loop-class-init c = plain_none c.args.types.now.keys (At c.args.classes.now HasObjects)

pub loop-class-preserved : goal.loop-class-preserved
loop-class-preserved c =
    let classes = c.args.classes.now in
    let i = c.loop-class.class-index in
    let x = c.class-item.result in
    plain_more c.args.types.now.keys c.loop-class.types.keys c.insert_if_instantiable.new.types.keys (At classes HasObjects) i c.loop-class.invariant
    (plain_at c.loop-class.types.keys c.insert_if_instantiable.new.types.keys classes HasObjects i x (slice_get_read classes (length classes) i x refl c.loop-class-test.true c.class-item.is) c.in_ok-insert_if_instantiable.ensures)

pub returns : goal.returns
returns c =
    let classes = c.args.classes.now in
    plain_over c.args.types.now.keys c.loop-class.types.keys classes HasObjects (IsInstantiable classes) c.loop-class.class-index (omega (arith, c.loop-class-test.false))
    (λ place x t there has. record { place = place; class = x; there = there; has = has })
    (λ t m. (m.place, m.class, m.there, m.has)) c.loop-class.invariant

use Rattle.std.proofs.Common.{length, refl, ◌∙◌}
use Rattle.std.proofs.lemmas.Option.{slice_get_read}
use Rattle.wf_subtype.specs.Universe.{ClassMakes}
use Rattle.wf_subtype.proofs.Collecting.{below_none, below_more, at_one, At}
use Rattle.wf_subtype.proofs.Making.{world_makes}
use Rattle.wf_subtype.proofs.universe.insert_classes.Goals as goal

pub loop-class-init : goal.loop-class-init
loop-class-init c = below_none c.args.classes.now c.args.types.now.keys (At c.as_slice-class-items.result.now ClassMakes)

pub loop-class-preserved : goal.loop-class-preserved
loop-class-preserved c =
    let items = c.as_slice-class-items.result.now in
    let i = c.loop-class.class-index in
    let x = c.class-item.result in
    below_more c.args.classes.now c.args.types.now.keys c.loop-class.types.keys c.insert_class.new.types.keys (At items ClassMakes) i c.loop-class.invariant
    (at_one c.args.classes.now c.loop-class.types.keys c.insert_class.new.types.keys items ClassMakes i x (slice_get_read items (length items) i x refl c.loop-class-test.true c.class-item.is) c.in_ok-insert_class.ensures)

pub returns : goal.returns
returns c = world_makes c.args.classes.now c.args.types.now.keys c.loop-class.types.keys c.as_slice-class-items.result.now c.loop-class.class-index (c.as_slice-class-items.ensures ∙ c.list.ensures.same) c.loop-class-test.false c.loop-class.invariant

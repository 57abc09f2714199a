use Rattle.std.proofs.Common.{length, refl, arith}
use Rattle.std.proofs.lemmas.Option.{slice_get_read}
use Rattle.wf_data.specs.declared.instr.Placed.{Placed}
use Rattle.wf_subtype.specs.Universe.{Makes, MakesOne}
use Rattle.wf_subtype.proofs.Collecting.{below_none, below_more, at_one, added_over, At}
use Rattle.wf_subtype.proofs.universe.insert_all_made.Goals as goal

pub loop-placed-init : goal.loop-placed-init
loop-placed-init c = below_none c.args.classes.now c.args.types.now.keys (At c.args.code.now (λ (p : Placed). Makes c.args.pool.now p.instr))

pub loop-placed-preserved : goal.loop-placed-preserved
loop-placed-preserved c =
    let code = c.args.code.now in
    let i = c.loop-placed.placed-index in
    let x = c.placed-item.result in
    below_more c.args.classes.now c.args.types.now.keys c.loop-placed.types.keys c.insert_made.new.types.keys (At code (λ (p : Placed). Makes c.args.pool.now p.instr)) i c.loop-placed.invariant
    (at_one c.args.classes.now c.loop-placed.types.keys c.insert_made.new.types.keys code (λ (p : Placed). Makes c.args.pool.now p.instr) i x (slice_get_read code (length code) i x refl c.loop-placed-test.true c.placed-item.is) c.in_ok-insert_made.ensures)

pub returns : goal.returns
returns c =
    let pool = c.args.pool.now in
    let code = c.args.code.now in
    added_over c.args.classes.now c.args.types.now.keys c.loop-placed.types.keys code (λ (p : Placed). Makes pool p.instr) (MakesOne pool code) c.loop-placed.placed-index (omega (arith, c.loop-placed-test.false))
    (λ place x t there makes. record { place = place; placed = x; there = there; makes = makes })
    (λ t m. (m.place, m.placed, m.there, m.makes)) c.loop-placed.invariant

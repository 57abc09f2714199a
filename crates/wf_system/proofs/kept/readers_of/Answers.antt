use Rattle.std.proofs.Common.{◌≡◌, ℕ, length, refl, subst, arith}
use Rattle.wf_system.specs.Bodies.{system_of}
use Rattle.wf_system.specs.Kept.{AreListed}
use Rattle.wf_system.proofs.KeptLaws.{listed_none, listed_written}
use Rattle.wf_system.proofs.kept.readers_of.Goals as goal

pub loop-row-init : goal.loop-row-init
loop-row-init c = λ most. listed_none (system_of c.args.shape.now most c.args.side.now c.args.rows.now) c.nodes.result _ c.nodes.ensures.count c.in_ok-lists.ensures

pub loop-row-preserved : goal.loop-row-preserved
loop-row-preserved c = λ most. listed_written (system_of c.args.shape.now most c.args.side.now c.args.rows.now) c.loop-row.row-index _ _ c.loop-row.lists c.as_mut_slice.result.now c.put_row.new.lists
    refl c.loop-row-test.true (c.loop-row.invariant most) c.as_mut_slice.ensures.value (c.in_ok-put_row.ensures most)

pub returns : goal.returns
returns c = λ most.
    let e : c.loop-row.row-index ≡ length c.args.rows.now = omega arith in
    subst (λ (k : ℕ). AreListed (system_of c.args.shape.now most c.args.side.now c.args.rows.now) k c.loop-row.lists) e (c.loop-row.invariant most)

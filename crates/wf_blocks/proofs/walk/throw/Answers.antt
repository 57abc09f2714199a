use Rattle.std.proofs.Common.{◌≡◌, ℕ, ◌<◌, ◌≤◌, List, length, arith, sym, ap, subst, ◌∙◌}
use Rattle.std.specs.Prelude.{All}
use Rattle.std.specs.List.{filter_map}
use Rattle.wf_blocks.specs.declared.body.Catcher.{Catcher}
use Rattle.wf_blocks.specs.Advancing.{width_of}
use Rattle.wf_blocks.specs.Bodies.{caught_by}
use Rattle.wf_blocks.specs.Graphs.{caught_sources}
use Rattle.wf_blocks.specs.Rows.{seen_after}
use Rattle.wf_blocks.specs.Walking.{row_thrown}
use Rattle.wf_blocks.proofs.WalkLemmas.{advances_by, thrown_low}
use Rattle.wf_blocks.proofs.walk.throw.Goals as goal

pub returns-in-Ok-clause-advances : goal.returns-in-Ok-clause-advances
returns-in-Ok-clause-advances c =
    λ e. let b = c.args.body.now in
    let same : c.as_slice-2.result.now ≡ row_thrown b c.args.row.now = c.as_slice-2.ensures ∙ c.in_ok-thrown.ensures ∙ ap (λ (n : ℕ). seen_after c.args.row.now (caught_sources n)) c.len.ensures in
    let low : length c.as_slice-2.result.now ≤ width_of b = omega (arith, ap length same, thrown_low b c.args.row.now) in
    let lower : All (λ t. t < length b.steps) (filter_map (caught_by c.args.place) c.as_slice.result.now) =
    subst (λ (cs : List Catcher). All (λ t. t < length b.steps) (filter_map (caught_by c.args.place) cs)) (sym c.as_slice.ensures) (c.requires.fits.catchers c.args.place) in
    advances_by b (filter_map (caught_by c.args.place) c.as_slice.result.now) c.as_slice-2.result.now c.args.rows.now c.spread_caught.new.rows c.args.queue.now.items c.spread_caught.new.queue.items
    c.requires.ready (c.in-Ok.ensures.flows e) lower (c.in-Ok.ensures.less (width_of b) e c.requires.ready.fits low)

use Rattle.std.proofs.Common.{ℕ, ◌+◌, ◌<◌, ◌≤◌, List, length, arith, sym, ap, subst, ◌∙◌, Ok, Bool, Result}
use Rattle.std.specs.Prelude.{All}
use Rattle.std.specs.declared.alloc.AllocError.{AllocError}
use Rattle.std.proofs.lemmas.List.Elements.{All-contains}
use Rattle.wf_blocks.specs.declared.seen.Seen.{Seen}
use Rattle.wf_blocks.specs.Advancing.{width_of}
use Rattle.wf_blocks.specs.Bodies.{targets_at, inner_of, graph_of}
use Rattle.wf_blocks.specs.Flowing.{Flowed, DiffersThere}
use Rattle.wf_blocks.specs.Walking.{Walking, row_after}
use Rattle.wf_blocks.proofs.WalkLemmas.{unsound_bad, thrown_differs, after_differs, after_low, falls_on, step_on, step_done, advances_by, advances_both}
use Rattle.wf_blocks.proofs.walk.step.Goals as goal

pub returns-then-not-is_sound-clause-means : goal.returns-then-not-is_sound-clause-means
returns-then-not-is_sound-clause-means c =
    λ first first_row w. unsound_bad (graph_of c.args.body.now) c.args.place c.args.row.now w.here (c.is_sound.ensures.bad c.if-not-is_sound.true)

pub returns-then-not-branch-clause-means : goal.returns-then-not-branch-clause-means
returns-then-not-branch-clause-means c =
    λ first first_row w. let ok : Bool → Result Bool AllocError = λ t. Ok t in
    thrown_differs c.args.body.now c.args.rows.now c.args.queue.now.items first first_row c.args.place c.args.row.now (c.in_ok-throw.ensures.differs (ap ok c.if-not-branch.true)) w

pub returns-then-goes_on-clause-means : goal.returns-then-goes_on-clause-means
returns-then-goes_on-clause-means c =
    λ first first_row w. let ok : Bool → Result Bool AllocError = λ t. Ok t in
    let b = c.args.body.now in
    subst (λ (r : List Seen). Walking (graph_of b) (inner_of b) c.throw.new.rows c.throw.new.queue.items first first_row (c.args.place + 1) r) (sym c.in_ok-after.ensures)
    (step_on b c.args.rows.now c.throw.new.rows c.args.queue.now.items c.throw.new.queue.items first first_row c.args.place c.args.row.now
    (c.is_sound.ensures.good c.if-not-is_sound.false) (c.in_ok-throw.ensures.flows (ap ok c.if-not-branch.false)) (sym c.goes_on.ensures ∙ c.if-goes_on.true) w)

pub returns-then-goes_on-clause-advances : goal.returns-then-goes_on-clause-advances
returns-then-goes_on-clause-advances c =
    let ok : Bool → Result Bool AllocError = λ t. Ok t in
    let b = c.args.body.now in
    let sound = (c.is_sound.ensures.good c.if-not-is_sound.false).sound in
    let g = falls_on b c.args.place (sym c.goes_on.ensures ∙ c.if-goes_on.true) in
    record {
      advances = c.in_ok-throw.ensures.advances (ap ok c.if-not-branch.false);
      low = omega (arith, ap length c.in_ok-after.ensures, after_low b c.args.place c.args.row.now sound);
      inside = All-contains (λ t. t < length b.steps) (targets_at b c.args.place) (c.args.place + 1) (c.requires.fits.targets c.args.place) g.target;
    }

pub returns-then-branch-clause-means : goal.returns-then-branch-clause-means
returns-then-branch-clause-means c =
    λ first first_row w. let ok : Bool → Result Bool AllocError = λ t. Ok t in
    let b = c.args.body.now in
    let spread = subst (λ (ts : List ℕ). Flowed ts (row_after b c.args.place c.args.row.now) c.throw.new.rows c.spread.new.rows c.throw.new.queue.items c.spread.new.queue.items) c.targets_at.ensures
    (subst (λ (r : List Seen). Flowed c.targets_at.result.now r c.throw.new.rows c.spread.new.rows c.throw.new.queue.items c.spread.new.queue.items) (c.as_slice.ensures ∙ c.in_ok-after.ensures)
    (c.in_ok-spread.ensures.flows (ap ok c.if-branch.true))) in
    step_done b c.args.rows.now c.throw.new.rows c.spread.new.rows c.args.queue.now.items c.throw.new.queue.items c.spread.new.queue.items first first_row c.args.place c.args.row.now
    (c.is_sound.ensures.good c.if-not-is_sound.false) (c.in_ok-throw.ensures.flows (ap ok c.if-not-branch.false)) (sym c.goes_on.ensures ∙ c.if-goes_on.false) spread w

pub returns-then-branch-clause-advances : goal.returns-then-branch-clause-advances
returns-then-branch-clause-advances c =
    let ok : Bool → Result Bool AllocError = λ t. Ok t in
    let b = c.args.body.now in
    let sound = (c.is_sound.ensures.good c.if-not-is_sound.false).sound in
    let first = c.in_ok-throw.ensures.advances (ap ok c.if-not-branch.false) in
    let low : length c.as_slice.result.now ≤ width_of b = omega (arith, ap length (c.as_slice.ensures ∙ c.in_ok-after.ensures), after_low b c.args.place c.args.row.now sound) in
    let lower : All (λ t. t < length b.steps) c.targets_at.result.now = subst (λ (ts : List ℕ). All (λ t. t < length b.steps) ts) (sym c.targets_at.ensures) (c.requires.fits.targets c.args.place) in
    advances_both b c.args.rows.now c.throw.new.rows c.spread.new.rows c.args.queue.now.items c.throw.new.queue.items c.spread.new.queue.items first
    (advances_by b c.targets_at.result.now c.as_slice.result.now c.throw.new.rows c.spread.new.rows c.throw.new.queue.items c.spread.new.queue.items first.ready
    (c.in_ok-spread.ensures.flows (ap ok c.if-branch.true)) lower (c.in_ok-spread.ensures.less (width_of b) (ap ok c.if-branch.true) first.ready.fits low))

pub returns-clause-means : goal.returns-clause-means
returns-clause-means c =
    λ first first_row w. let ok : Bool → Result Bool AllocError = λ t. Ok t in
    let b = c.args.body.now in
    let differs = subst (λ (ts : List ℕ). DiffersThere ts (row_after b c.args.place c.args.row.now) c.throw.new.rows) c.targets_at.ensures
    (subst (λ (r : List Seen). DiffersThere c.targets_at.result.now r c.throw.new.rows) (c.as_slice.ensures ∙ c.in_ok-after.ensures) (c.in_ok-spread.ensures.differs (ap ok c.if-branch.false))) in
    after_differs b c.args.rows.now c.throw.new.rows c.args.queue.now.items c.throw.new.queue.items first first_row c.args.place c.args.row.now
    (c.in_ok-throw.ensures.flows (ap ok c.if-not-branch.false)) (sym c.goes_on.ensures ∙ c.if-goes_on.false) differs w

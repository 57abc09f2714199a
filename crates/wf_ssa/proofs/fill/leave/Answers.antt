use Rattle.std.proofs.Common.{◌≡◌, ℕ, Bool, true, false, ◌||◌, List, Option, Some, Result, Ok, inl, inr, sym, ap, subst, ◌∙◌, arith, length}
use Rattle.std.specs.Prelude.{◌==◌, slice_get}
use Rattle.std.specs.declared.alloc.AllocError.{AllocError}
use Rattle.std.proofs.lemmas.Bool.{eqb-true, eqb-false}
use Rattle.std.proofs.lemmas.Option.{get_or_from_slice_get}
use Rattle.wf_blocks.specs.declared.body.Body.{Body}
use Rattle.wf_blocks.specs.Bodies.{graph_of, targets_at}
use Rattle.wf_blocks.specs.Graphs.{Reached}
use Rattle.wf_blocks.proofs.SeenLemmas.{true_or_false}
use Rattle.wf_ssa.specs.declared.before.Before.{Before}
use Rattle.wf_ssa.specs.Keeping.{answered, nones, IsFilled}
use Rattle.wf_ssa.proofs.FillLemmas.{either_first, either_next, get_inside, less_more, neither}
use Rattle.wf_ssa.proofs.fill.leave.Goals as goal
use Rattle.wf_ssa.proofs.fill.leave.Goals.{then-more, else-more}

pub loop-edge-preserved : goal.loop-edge-preserved
loop-edge-preserved c =
    let b = c.args.blocks.now in
    let ms = c.args.meets.now in
    let old = c.args.known.now in
    let more = c.loop-edge.more in
    let kept = c.in_ok-kept.kept in
    let i = c.loop-edge.invariant in
    let ok : Bool → Result Bool AllocError = λ t. Ok t in
    let is : c.if-more.more ≡ (more || kept) = elim c.if-more.branch [
      | then-more w ↦ either_first more kept c.if-more.more w.if-more.true w.more-is
      | else-more w ↦ either_next more kept c.if-more.more w.if-more.false w.more-is
    ] in
    let same : kept ≡ false → c.leave_edge.new.known ≡ c.loop-edge.known = λ e. c.in_ok-kept.ensures.same (ap ok e) in
    let targets : c.targets_at-targets.result.now ≡ targets_at b c.args.place = c.targets_at-targets.ensures ∙ ap (λ (x : Body). targets_at x c.args.place) c.body.ensures in
    let here : (to : ℕ) → c.if-more.more ≡ false → Reached (graph_of b) c.args.place → answered b ms old c.args.place ≡ true → slice_get (targets_at b c.args.place) c.loop-edge.edge ≡ Some to → IsFilled b ms old to = λ to e reached answers leads.
    (let none = neither more kept (sym is ∙ e) in
    let to_is = get_or_from_slice_get c.targets_at-targets.result.now c.loop-edge.edge to 0 (ap (λ (ts : List ℕ). slice_get ts c.loop-edge.edge) targets ∙ leads) in
    let filled = c.in_ok-kept.ensures.filled (ap ok none.1) reached (ap (λ (ks : List (Option Before)). answered b ms ks c.args.place) (i.same none.0) ∙ answers) in
    subst (λ (ks : List (Option Before)). IsFilled b ms ks to) (i.same none.0) (subst (λ (t : ℕ). IsFilled b ms c.loop-edge.known t) to_is filled)) in
    record {
      count = c.leave_edge.auto.known ∙ i.count;
      sound = λ failing fails sound. c.in_ok-kept.ensures.sound failing fails (i.sound failing fails sound);
      less = λ e. less_more more kept (nones old) (nones c.loop-edge.known) (nones c.leave_edge.new.known) (sym is ∙ e) i.less (λ f. ap nones (i.same f)) (λ f. c.in_ok-kept.ensures.less (ap ok f)) (λ f. ap nones (same f));
      room = omega (arith, i.room, c.in_ok-kept.ensures.room);
      same = λ e. (let none = neither more kept (sym is ∙ e) in same none.1 ∙ i.same none.0);
      left = λ edge to e lt reached answers leads.
          elim (true_or_false (edge == c.loop-edge.edge)) [
            | inl at ↦ here to e reached answers (subst (λ (n : ℕ). slice_get (targets_at b c.args.place) n ≡ Some to) (eqb-true edge c.loop-edge.edge at) leads)
            | inr apart ↦ i.left edge to (neither more kept (sym is ∙ e)).0 (omega (arith, lt, eqb-false edge c.loop-edge.edge apart)) reached answers leads
          ];
    }

ok_is : {x y : Bool} → ◌≡◌ {A = Result Bool AllocError} (Ok x) (Ok y) → x ≡ y
ok_is e = cc

pub returns-clause-left : goal.returns-clause-left
returns-clause-left c =
    λ e. let b = c.args.blocks.now in
    let targets : c.targets_at-targets.result.now ≡ targets_at b c.args.place = c.targets_at-targets.ensures ∙ ap (λ (x : Body). targets_at x c.args.place) c.body.ensures in
    record {
      each = λ edge to reached answers leads.
          c.loop-edge.invariant.left edge to (ok_is e) (omega (arith, c.loop-edge-test.false, ap length targets, get_inside (targets_at b c.args.place) edge to leads)) reached answers leads;
    }

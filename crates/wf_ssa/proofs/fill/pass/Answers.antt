use Rattle.std.proofs.Common.{◌≡◌, ℕ, Bool, false, ◌||◌, List, Option, Result, Ok, inl, inr, sym, ap, subst, ◌∙◌, arith}
use Rattle.std.specs.Prelude.{◌==◌}
use Rattle.std.specs.declared.alloc.AllocError.{AllocError}
use Rattle.std.proofs.lemmas.Bool.{eqb-true, eqb-false}
use Rattle.wf_blocks.proofs.SeenLemmas.{true_or_false}
use Rattle.wf_ssa.specs.declared.before.Before.{Before}
use Rattle.wf_ssa.specs.Keeping.{nones, IsLeft}
use Rattle.wf_ssa.proofs.FillLemmas.{either_first, either_next, less_more, neither}
use Rattle.wf_ssa.proofs.fill.pass.Goals as goal
use Rattle.wf_ssa.proofs.fill.pass.Goals.{then-more, else-more}

pub loop-place-preserved : goal.loop-place-preserved
loop-place-preserved c =
    let b = c.args.blocks.now in
    let ms = c.args.meets.now in
    let old = c.args.known.now in
    let more = c.loop-place.more in
    let kept = c.in_ok-kept.kept in
    let i = c.loop-place.invariant in
    let ok : Bool → Result Bool AllocError = λ t. Ok t in
    let is : c.if-more.more ≡ (more || kept) = elim c.if-more.branch [
      | then-more w ↦ either_first more kept c.if-more.more w.if-more.true w.more-is
      | else-more w ↦ either_next more kept c.if-more.more w.if-more.false w.more-is
    ] in
    let same : kept ≡ false → c.leave.new.known ≡ c.loop-place.known = λ e. c.in_ok-kept.ensures.same (ap ok e) in
    let here : c.if-more.more ≡ false → IsLeft b ms old c.loop-place.place = λ e.
    (let none = neither more kept (sym is ∙ e) in subst (λ (ks : List (Option Before)). IsLeft b ms ks c.loop-place.place) (i.same none.0) (c.in_ok-kept.ensures.left (ap ok none.1))) in
    record {
      count = c.leave.auto.known ∙ i.count;
      sound = λ failing fails sound. c.in_ok-kept.ensures.sound failing fails (i.sound failing fails sound);
      less = λ e. less_more more kept (nones old) (nones c.loop-place.known) (nones c.leave.new.known) (sym is ∙ e) i.less (λ f. ap nones (i.same f)) (λ f. c.in_ok-kept.ensures.less (ap ok f)) (λ f. ap nones (same f));
      same = λ e. (let none = neither more kept (sym is ∙ e) in same none.1 ∙ i.same none.0);
      left = λ place e lt.
          elim (true_or_false (place == c.loop-place.place)) [
            | inl at ↦ subst (λ (p : ℕ). IsLeft b ms old p) (sym (eqb-true place c.loop-place.place at)) (here e)
            | inr apart ↦ i.left place (neither more kept (sym is ∙ e)).0 (omega (arith, lt, eqb-false place c.loop-place.place apart))
          ];
    }

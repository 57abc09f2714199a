use Rattle.std.proofs.Common.{ℕ, ◌<◌, List, Bool, length, sym, subst}
use Rattle.wf_ssa.specs.Keeping.{AreFails, IsLeft}
use Rattle.wf_ssa.proofs.BackLemmas.{all_answered}
use Rattle.wf_ssa.proofs.env.environments.Goals as goal

pub invariant_of-result : goal.invariant_of-result
invariant_of-result c =
    let b = c.args.blocks.now in
    let failing = c.args.failing.now in
    let ms = c.in_ok-meets.meets in
    let known = c.in_ok-known.known.items in
    let failed = subst (λ (f : List ℕ). AreFails f c.in_ok-fails.fails) c.as_slice.ensures c.in_ok-fails.ensures in
    let left : (p : ℕ) → p < length b.steps → IsLeft b ms known p = λ p lt. subst (λ (m : List Bool). IsLeft b m known p) c.as_slice-3.ensures (c.in_ok-known.ensures.left p lt) in
    record {
      failed = failed;
      met_are = c.in_ok-meets.ensures;
      sound = c.in_ok-known.ensures.sound failing (subst (λ (m : List Bool). AreFails failing m) (sym c.as_slice-2.ensures) failed);
      all = λ place k is. all_answered b failing is.marks ms known place k is.are c.in_ok-meets.ensures left is.before;
    }

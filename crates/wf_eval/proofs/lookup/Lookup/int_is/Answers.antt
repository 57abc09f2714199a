use Rattle.std.proofs.Common.{ℕ, ℤ, ap, ◌∙◌, w32}
use Rattle.std.proofs.lemmas.Int.{to_z-of_z}
use Rattle.wf_lattice.specs.Ints.{constant_word}
use Rattle.wf_lattice.specs.Words.{one_word}
use Rattle.wf_system.specs.declared.inequality.ValueOp.TheVariants as ops
use Rattle.wf_eval.specs.declared.plan.Plan.TheVariants.{First}
use Rattle.wf_eval.proofs.WordLaws.{constant_said}
use Rattle.wf_eval.proofs.lookup.Lookup.int_is.Goals as goal

pub returns : goal.returns
returns g c = constant_said c.args.self.now.shape.now c.args.self.now.most c.args.self.now.side.now (ops.IntIs c.args.c) c.args.to (First c.of.result.0) (g.W.Words.seen c.args.words.now)
    (λ x k. ap (λ (w : ℕ). one_word w k) (c.of.ensures.word ∙ ap (λ (z : ℤ). constant_word z) (to_z-of_z w32 c.args.c c.ranges.c)))

use Rattle.wf_lattice.specs.declared.kind.NodeKind.TheVariants.{Int}
use Rattle.std.proofs.Common.{◌∙◌, ap, ℕ}
use Rattle.wf_eval.proofs.PlanLaws.{kind_there}
use Rattle.wf_eval.proofs.WordLaws.{inside_at, refined_by_said}
use Rattle.wf_eval.proofs.lookup.Lookup.refined_by.Goals as goal
use Rattle.std.proofs.Common.{ℤ, w32}
use Rattle.std.proofs.lemmas.Int.{to_z-of_z}
use Rattle.wf_lattice.specs.Ints.{refined_word, constant_word}

pub word_of-left-requires-clause-place : goal.word_of-left-requires-clause-place
word_of-left-requires-clause-place g c = inside_at c.args.self.now.shape.now c.args.a.0 c.node.result c.args.self.now.laid c.node.ensures (kind_there c.args.self.now.shape.now c.args.a.0 Int (λ h. absurd cc) c.requires.left)

pub returns : goal.returns
returns g c = refined_by_said c.args.self.now.shape.now c.args.self.now.most c.args.self.now.side.now c.args.to c.args.cmp c.args.a c.args.j c.node.result c.word_of-left.result c.refine.result.0 c.node.ensures c.word_of-left.ensures (c.refine.ensures.word ∙ ap (λ (w : ℕ). refined_word c.args.cmp c.word_of-left.result w) c.of.ensures.word
    ∙ ap (λ (z : ℤ). refined_word c.args.cmp c.word_of-left.result (constant_word z)) (to_z-of_z w32 c.args.j c.ranges.j))

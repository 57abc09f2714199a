use Rattle.wf_lattice.specs.declared.kind.NodeKind.TheVariants.{Int}
use Rattle.std.proofs.Common.{◌∙◌, ap, ℕ}
use Rattle.wf_eval.proofs.PlanLaws.{kind_there}
use Rattle.wf_eval.proofs.WordLaws.{inside_at, not_in_said}
use Rattle.wf_eval.proofs.lookup.Lookup.not_in.Goals as goal
use Rattle.std.proofs.Common.{List, ℤ}
use Rattle.wf_lattice.specs.Ints.{not_among_word}

pub word_of-left-requires-clause-place : goal.word_of-left-requires-clause-place
word_of-left-requires-clause-place g c = inside_at c.args.self.now.shape.now c.args.a.0 c.node.result c.args.self.now.laid c.node.ensures (kind_there c.args.self.now.shape.now c.args.a.0 Int (λ h. absurd cc) c.requires.left)

pub returns : goal.returns
returns g c = not_in_said c.args.self.now.shape.now c.args.self.now.most c.args.self.now.side.now c.args.to c.args.a c.args.place c.node.result c.word_of-left.result c.not_in.result.0 c.node.ensures c.word_of-left.ensures (c.not_in.ensures.word ∙ ap (λ (keys : List ℤ). not_among_word keys c.word_of-left.result) c.keys.ensures)

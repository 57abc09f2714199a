use Rattle.wf_lattice.specs.declared.kind.NodeKind.TheVariants.{Int}
use Rattle.std.proofs.Common.{◌∙◌, ap, ℕ}
use Rattle.wf_eval.proofs.PlanLaws.{kind_there}
use Rattle.wf_eval.proofs.WordLaws.{inside_at, refined_said}
use Rattle.wf_eval.proofs.lookup.Lookup.refined.Goals as goal

pub word_of-left-requires-clause-place : goal.word_of-left-requires-clause-place
word_of-left-requires-clause-place g c = inside_at c.args.self.now.shape.now c.args.a.0 c.node.result c.args.self.now.laid c.node.ensures (kind_there c.args.self.now.shape.now c.args.a.0 Int (λ h. absurd cc) c.requires.left)

pub word_of-right-requires-clause-place : goal.word_of-right-requires-clause-place
word_of-right-requires-clause-place g c = inside_at c.args.self.now.shape.now c.args.b.0 c.node-2.result c.args.self.now.laid c.node-2.ensures (kind_there c.args.self.now.shape.now c.args.b.0 Int (λ h. absurd cc) c.requires.right)

pub returns : goal.returns
returns g c = refined_said c.args.self.now.shape.now c.args.self.now.most c.args.self.now.side.now c.args.to c.args.cmp c.args.a c.args.b c.node.result c.node-2.result c.word_of-left.result c.word_of-right.result c.refine.result.0 c.node.ensures c.node-2.ensures c.word_of-left.ensures c.word_of-right.ensures c.refine.ensures.word

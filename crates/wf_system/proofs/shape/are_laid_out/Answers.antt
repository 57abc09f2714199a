use Rattle.std.proofs.Common.{◌≡◌, ℕ, suc, ◌+◌, ◌-◌, List, length, slice_index_or, ap, arith}
use Rattle.wf_system.specs.declared.node_shape.NodeShape.{NodeShape}
use Rattle.std.proofs.lemmas.List.{get_or_default}
use Rattle.wf_lattice.specs.declared.kind.NodeKind.TheVariants.{Token}
use Rattle.wf_system.specs.Shapes.{no_node, shape_at, words_before}
use Rattle.wf_system.proofs.ShapeLaws.{words_more}
use Rattle.wf_system.proofs.shape.are_laid_out.Goals as goal

pub returns-then-next-ge4294967296 : goal.returns-then-next-ge4294967296
returns-then-next-ge4294967296 c =
    let nodes : List NodeShape = c.args.nodes.now in
    let n : ℕ = c.loop-node.node-index in
    let all : suc n + (length nodes - suc n) ≡ length nodes = omega (arith, c.loop-node-test.true) in
    let other : NodeShape = record { kind = Token; first_word = 0; words = 0 } in
    let node : (slice_index_or nodes n other).words ≡ (shape_at nodes n).words = ap (λ (s : NodeShape). s.words) (get_or_default nodes n other no_node c.loop-node-test.true) in
    (λ h. absurd cc, λ laid. absurd (omega (arith, c.loop-node.invariant.next_is, words_more nodes (suc n) (length nodes - suc n), ap (words_before nodes) all, laid.few, node, c.if-next-ge4294967296.true)))

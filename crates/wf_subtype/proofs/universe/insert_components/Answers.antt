use Rattle.std.proofs.Common.{◌≡◌, List, ℕ, drop, subst, arith}
use Rattle.wf_subtype.specs.Universe.{InsertsArrays}
use Rattle.wf_subtype.proofs.Naming.{tail_whole}
use Rattle.wf_subtype.proofs.Collecting.{below_none, below_more}
use Rattle.wf_subtype.proofs.Making.{all_components}
use Rattle.wf_subtype.proofs.universe.insert_components.Goals as goal

pub loop-n-init : goal.loop-n-init
loop-n-init c = below_none c.args.classes.now c.args.types.now.keys (λ n t. t ≡ drop n c.args.name.now)

pub loop-n-preserved : goal.loop-n-preserved
loop-n-preserved c =
    let classes = c.args.classes.now in
    let name = c.args.name.now in
    below_more classes c.args.types.now.keys c.loop-n.types.keys c.insert_array.new.types.keys (λ n t. t ≡ drop n name) c.loop-n.n c.loop-n.invariant
    (subst (λ (text : List ℕ). InsertsArrays classes c.loop-n.types.keys c.insert_array.new.types.keys (λ n. n ≡ text)) (tail_whole c.loop-n.n name) c.in_ok-insert_array.ensures)

pub returns : goal.returns
returns c = all_components c.args.classes.now c.args.types.now.keys c.loop-n.types.keys c.args.name.now c.args.lengths c.loop-n.n c.requires (omega (arith, c.min-count.ensures, c.loop-n-test.false, c.loop-n.auto.n-end)) c.loop-n.invariant

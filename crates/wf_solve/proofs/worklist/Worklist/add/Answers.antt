use Rattle.std.proofs.Common.{length-set}
use Rattle.wf_solve.proofs.WorkLaws.{adds_at, kept_added}
use Rattle.wf_solve.proofs.worklist.Worklist.add.Goals as goal

pub returns : goal.returns
returns c = adds_at c.self.inside.nodes c.self.inside.bits.items c.args.self.now c.args.n.0 c.index.result.now c.self.view_is c.self.invariant c.index.ensures c.requires

pub invariant_of-self : goal.invariant_of-self
invariant_of-self c = kept_added c.self.inside.nodes c.self.inside.bits.items _ c.args.self.now c.args.n.0 c.self.view_is c.self.invariant (length-set _ _ _) c.requires
    (adds_at c.self.inside.nodes c.self.inside.bits.items c.args.self.now c.args.n.0 c.index.result.now c.self.view_is c.self.invariant c.index.ensures c.requires)

use Rattle.std.proofs.Common.{◌≡◌, ℕ, subst, arith}
use Rattle.wf_system.specs.Kept.{AreEmpty}
use Rattle.wf_system.proofs.KeptLaws.{empty_none, empty_more}
use Rattle.wf_system.proofs.kept.empty_lists.Goals as goal

pub loop-init : goal.loop-init
loop-init c = empty_none c.new-lists.result c.new-lists.ensures

pub loop-preserved : goal.loop-preserved
loop-preserved c = empty_more c.loop.counter c.loop.lists c.add_list.new.lists c.loop.invariant c.in_ok-add_list.ensures

pub returns : goal.returns
returns c = let e : c.loop.counter ≡ c.args.count = omega arith in subst (λ (k : ℕ). AreEmpty k c.loop.lists) e c.loop.invariant

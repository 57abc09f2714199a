use Rattle.std.proofs.Common.{subst, ℕ, refl, get_or}
use Rattle.wf_classes.specs.Above.{ClassesAbove, IsHighest, IsBelow}
use Rattle.wf_classes.proofs.Sweep.{highest_is, none_below}
use Rattle.wf_classes.proofs.above.Above.highest_below.Goals as goal

pub returns-in-Some : goal.returns-in-Some
returns-in-Some c =
    let i = c.self.inside in
    let d = get_or i.order.now c.in-Some.h 0 in
    subst (λ (v : ClassesAbove). IsHighest v c.args.bound d) c.self.view_is (highest_is i.list.now i.class.0 i.order.now i.heights.now i.bits c.args.bound c.in-Some.h d c.self.invariant c.in-Some.ensures refl)

pub returns-in-None : goal.returns-in-None
returns-in-None c = let i = c.self.inside in subst (λ (v : ClassesAbove). (e : ℕ) → IsBelow v c.args.bound e → ⊥) c.self.view_is (none_below i.list.now i.class.0 i.order.now i.heights.now i.bits c.args.bound c.self.invariant c.in-None.ensures)

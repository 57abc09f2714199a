use Rattle.std.proofs.Common.{List, ℕ, length, sym, ap, subst, ◌∙◌}
use Rattle.wf_classes.specs.Above.{Adds, IsHeightAmong}
use Rattle.wf_classes.specs.World.{number_in}
use Rattle.wf_classes.proofs.Sweep.{direct_from_none, direct_from_some}
use Rattle.wf_classes.proofs.above.add_direct.Goals as goal
use Rattle.wf_classes.proofs.above.add_direct.Goals.{in-Some, in_default}

pub returns : goal.returns
returns c =
    let ids = c.superinterfaces.result.now in
    elim c.match-superclass.branch [
      | in-Some w ↦ direct_from_some c.args.classes.now c.args.heights.now c.args.c.0 w.in-Some.s.0 ids c.args.bits.now w.add.new.bits c.add_all.new.bits (sym c.superclass.ensures.number ∙ ap number_in w.in-Some.is) c.superinterfaces.ensures.numbers w.add.ensures
          (subst (λ (bits : List ℕ). Adds bits c.add_all.new.bits (IsHeightAmong c.args.heights.now ids (length ids))) w.bits-is c.add_all.ensures)
      | in_default w ↦ direct_from_none c.args.classes.now c.args.heights.now c.args.c.0 ids c.args.bits.now c.add_all.new.bits (sym c.superclass.ensures.number ∙ ap number_in w.in_default.is) c.superinterfaces.ensures.numbers
          (subst (λ (bits : List ℕ). Adds bits c.add_all.new.bits (IsHeightAmong c.args.heights.now ids (length ids))) w.bits-is c.add_all.ensures)
    ]

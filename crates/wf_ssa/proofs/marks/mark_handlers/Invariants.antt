use Rattle.std.proofs.Common.{◌≡◌, ℕ, true, ◌||◌, get_or, take}
use Rattle.std.specs.List.{list_any}
use Rattle.wf_blocks.specs.Bodies.{is_handler}
use Rattle.wf_ssa.proofs.marks.mark_handlers.Given as goal

abbrev pub invariant-loop-catcher : goal.invariant-loop-catcher
invariant-loop-catcher l = (p : ℕ) → get_or l.marks p true ≡ (get_or l.initial.marks p true || list_any (is_handler p) (take l.catcher-index l.catchers))

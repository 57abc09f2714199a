use Rattle.std.proofs.Common.{◌≡◌, ℕ, true, ◌||◌, get_or, take}
use Rattle.wf_blocks.specs.Bodies.{any_leads_apart}
use Rattle.wf_blocks.proofs.marks.mark_steps.Given as goal

abbrev pub invariant-loop-place : goal.invariant-loop-place
invariant-loop-place l = (p : ℕ) → get_or l.marks p true ≡ (get_or l.initial.marks p true || any_leads_apart 0 (take l.place l.steps) p)

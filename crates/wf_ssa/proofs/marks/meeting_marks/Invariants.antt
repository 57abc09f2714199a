use Rattle.std.proofs.Common.{◌≡◌, ℕ, ◌<◌, ◌≤◌, Bool, List, length, false, get_or}
use Rattle.std.specs.List.{list_any}
use Rattle.wf_blocks.specs.Answers.{AreReached}
use Rattle.wf_blocks.specs.Bodies.{is_handler}
use Rattle.wf_ssa.specs.Environments.{meets}
use Rattle.wf_ssa.proofs.marks.meeting_marks.Given as goal

abbrev pub invariant-loop-place : goal.invariant-loop-place
invariant-loop-place l = record {
  count : length l.marks.items ≡ length l.blocks.steps;
  below : (reached : List Bool) (p : ℕ) → AreReached l.blocks reached → p < l.place → get_or l.marks.items p false ≡ meets l.blocks reached p;
  rest : (p : ℕ) → l.place ≤ p → p < length l.blocks.steps → get_or l.marks.items p false ≡ list_any (is_handler p) l.blocks.catchers;
}

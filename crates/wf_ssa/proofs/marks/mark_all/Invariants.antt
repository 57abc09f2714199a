use Rattle.std.proofs.Common.{◌≡◌, ℕ, true, ◌||◌, get_or, take}
use Rattle.std.specs.Prelude.{◌==◌}
use Rattle.std.specs.List.{list_any}
use Rattle.wf_ssa.proofs.marks.mark_all.Given as goal

abbrev pub invariant-loop-place : goal.invariant-loop-place
invariant-loop-place l = (p : ℕ) → get_or l.marks p true ≡ (get_or l.initial.marks p true || list_any (λ t. t == p) (take l.place-index l.places))

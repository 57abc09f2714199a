use Rattle.std.proofs.Common.{◌≡◌, ℕ, ◌<◌, map, get_or, Some}
use Rattle.std.specs.Prelude.{slice_get}
use Rattle.wf_classes.specs.Above.{Has}
use Rattle.wf_classes.specs.World.{number}
use Rattle.wf_resolve.proofs.fields.first_marked.Given as goal

abbrev pub invariant-loop-c : goal.invariant-loop-c
invariant-loop-c l = (j t : ℕ) → j < l.c-index → slice_get (map number l.ids) j ≡ Some t → Has l.bits (get_or l.heights t 0) → ⊥

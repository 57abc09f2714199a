use Rattle.std.proofs.Common.{◌≡◌, ℕ, ◌<◌, true, Some}
use Rattle.std.specs.Prelude.{slice_get}
use Rattle.wf_inputs.specs.declared.roots.RootLine.{RootLine}
use Rattle.wf_binding.specs.Numbering.{made_stands}
use Rattle.wf_worlds.proofs.tests.binding.all_stand.Given as goal

abbrev pub invariant-loop-line : goal.invariant-loop-line
invariant-loop-line l = (i : ℕ) (r : RootLine) → i < l.line-index → slice_get l.lines i ≡ Some r → made_stands l.types r.root ≡ true

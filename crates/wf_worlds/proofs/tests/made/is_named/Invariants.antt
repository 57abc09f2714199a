use Rattle.std.proofs.Common.{◌≡◌, ℕ, ◌<◌, Some}
use Rattle.std.specs.Prelude.{slice_get}
use Rattle.wf_data.specs.declared.class_info.ClassInfo.{ClassInfo}
use Rattle.wf_worlds.proofs.tests.made.is_named.Given as goal

abbrev pub invariant-loop-class : goal.invariant-loop-class
invariant-loop-class l = (i : ℕ) (k : ClassInfo) → i < l.class-index → slice_get l.fn.classes i ≡ Some k → k.name ≡ l.fn.name → ⊥

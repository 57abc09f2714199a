use Rattle.std.proofs.Common.{◌≡◌, ◌≤◌, ◌-◌, drop}
use Rattle.wf_binding.specs.Named.{is_component}
use Rattle.wf_binding.proofs.named.is_component.Given as goal

abbrev pub invariant-loop-i : goal.invariant-loop-i
invariant-loop-i l = record {
  few : l.i ≤ 255;
  rest : is_component l.classes 255 l.text ≡ is_component l.classes (255 - l.i) (drop l.i l.text);
}

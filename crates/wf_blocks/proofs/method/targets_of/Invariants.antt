use Rattle.std.proofs.Common.{◌≡◌, Some}
use Rattle.std.specs.Prelude.{map}
use Rattle.std.specs.List.{range_with_len}
use Rattle.wf_blocks.specs.Methods.{all_some, target_at}
use Rattle.wf_blocks.proofs.method.targets_of.Given as goal

abbrev pub invariant-loop-edge : goal.invariant-loop-edge
invariant-loop-edge l = all_some (map (target_at l.places l.place l.next) (range_with_len 0 l.edge)) ≡ Some l.targets.items

use Rattle.std.proofs.Common.{◌≡◌, take}
use Rattle.std.specs.Prelude.{map}
use Rattle.wf_blocks.specs.SeenKinds.{only}
use Rattle.wf_blocks.proofs.first.entry_row.Given as goal

abbrev pub invariant-loop-kind : goal.invariant-loop-kind
invariant-loop-kind l = l.row.items ≡ map only (take l.kind-index l.kinds)

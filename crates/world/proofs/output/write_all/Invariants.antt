use Rattle.std.proofs.Common.{◌≡◌, ◌-◌, ◌≤◌, ◌++◌, ℕ, List, Some, length, take}
use Rattle.world.proofs.output.write_all.Given as goal

abbrev pub invariant-loop-done : goal.invariant-loop-done
invariant-loop-done g l = record {
  within : l.done ≤ length l.bytes;
  taken : (had : List ℕ) → g.S.Sink.taken l.fn.sink ≡ Some had → g.S.Sink.taken l.sink ≡ Some (had ++ take l.done l.bytes);
  grows : g.S.Sink.count l.fn.sink ≤ g.S.Sink.count l.sink;
}

abbrev pub decreases-loop-done : goal.decreases-loop-done
decreases-loop-done g l = length l.bytes - l.done

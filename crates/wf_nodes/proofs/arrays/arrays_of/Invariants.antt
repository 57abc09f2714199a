use Rattle.std.proofs.Common.{◌≡◌, ◌+◌, ◌≤◌, length}
use Rattle.wf_nodes.specs.Sharing.{AreArrays}
use Rattle.wf_nodes.specs.Tables.{ArePlacesOfArrays}
use Rattle.wf_nodes.proofs.arrays.arrays_of.Given as goal

abbrev pub invariant-loop-n : goal.invariant-loop-n
invariant-loop-n l = record {
  are : AreArrays l.types l.n l.arrays.list.items;
  placed : ArePlacesOfArrays l.arrays.list.items l.arrays.places.items;
  count : length l.arrays.places.items ≡ l.n + 1;
  few : length l.arrays.list.items ≤ l.n;
}

use Rattle.std.proofs.Common.{◌+◌, ◌*◌, ◌^◌, ◌≤◌}
use Rattle.wf_nodes.specs.Tables.{AreMethods, ArePlaced, count_at_method, method_begins}
use Rattle.wf_nodes.proofs.methods.method_places.Given as goal

abbrev pub invariant-loop-m : goal.invariant-loop-m
invariant-loop-m l = record {
  are : AreMethods l.types l.m l.places.items;
  placed : ArePlaced method_begins count_at_method l.fn.first l.places.items l.next;
  small : l.next ≤ 2 ^ 32 + 131072 * l.m;
}

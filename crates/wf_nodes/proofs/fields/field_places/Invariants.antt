use Rattle.std.proofs.Common.{◌+◌, ◌*◌, ◌^◌, ◌≤◌}
use Rattle.wf_nodes.specs.Tables.{AreFields, ArePlaced, count_at_field, field_begins}
use Rattle.wf_nodes.proofs.fields.field_places.Given as goal

abbrev pub invariant-loop-f : goal.invariant-loop-f
invariant-loop-f l = record {
  are : AreFields l.types l.f l.places.items;
  placed : ArePlaced field_begins count_at_field l.fn.first l.places.items l.next;
  small : l.next ≤ 2 ^ 50 + 2 * l.f;
}

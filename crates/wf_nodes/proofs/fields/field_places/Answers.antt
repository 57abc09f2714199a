use Rattle.std.proofs.Common.{refl, arith}
use Rattle.wf_nodes.specs.Tables.{count_at_field, field_begins}
use Rattle.wf_nodes.proofs.Members.{fields_on}
use Rattle.wf_nodes.proofs.Placing.{placed_on}
use Rattle.wf_nodes.proofs.fields.field_places.Goals as goal

pub loop-f-preserved : goal.loop-f-preserved
loop-f-preserved c =
    let places = c.loop-f.places.items in
    let next = c.loop-f.next in
    let followed = c.followed_at-followed.result in
    let is = c.loop-f.invariant in
    record {
      are = rw c.in_ok-push.ensures.items (fields_on c.args.types.now c.loop-f.f places (record { first = next; followed = followed }) is.are c.followed_at-followed.ensures);
      placed = rw (c.in_ok-push.ensures.items, c.field_count-next.ensures.gives) (placed_on field_begins count_at_field c.args.first next places (record { first = next; followed = followed }) refl is.placed);
      small = omega (arith, is.small, c.field_count-next.ensures.few);
    }

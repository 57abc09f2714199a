use Rattle.std.proofs.Common.{refl, arith}
use Rattle.wf_nodes.specs.Tables.{count_at_method, method_begins}
use Rattle.wf_nodes.proofs.Members.{methods_on}
use Rattle.wf_nodes.proofs.Placing.{placed_on}
use Rattle.wf_nodes.proofs.methods.method_places.Goals as goal

pub loop-m-preserved : goal.loop-m-preserved
loop-m-preserved c =
    let places = c.loop-m.places.items in
    let next = c.loop-m.next in
    let nodes = c.in_ok-nodes.nodes in
    let is = c.loop-m.invariant in
    record {
      are = rw c.in_ok-push.ensures.items (methods_on c.args.types.now c.loop-m.m places (record { first = next; nodes = nodes }) is.are c.in_ok-nodes.ensures);
      placed = rw (c.in_ok-push.ensures.items, c.count-next.ensures.gives) (placed_on method_begins count_at_method c.args.first next places (record { first = next; nodes = nodes }) refl is.placed);
      small = omega (arith, is.small, c.count-next.ensures.few);
    }

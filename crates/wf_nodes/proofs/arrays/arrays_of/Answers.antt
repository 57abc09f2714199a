use Rattle.std.proofs.Common.{length, ap, arith}
use Rattle.std.specs.Prelude.{option_map}
use Rattle.std.proofs.lemmas.List.{length_push}
use Rattle.wf_nodes.proofs.ArrayTypes.{arrays_on, few_more, no_arrays, no_places, places_on}
use Rattle.wf_nodes.proofs.arrays.arrays_of.Goals as goal

pub loop-n-init : goal.loop-n-init
loop-n-init c = rw (c.new.ensures.items, c.in_ok-vec.ensures.items) (record { are = no_arrays c.args.types.now; placed = no_places; count = omega arith; few = omega arith })

pub loop-n-preserved : goal.loop-n-preserved
loop-n-preserved c =
    let types = c.args.types.now in
    let n = c.loop-n.n in
    let is = c.loop-n.invariant in
    let list = c.loop-n.arrays.list.items in
    let places = c.loop-n.arrays.places.items in
    let found = c.array_at.result in
    let goes = c.in_ok-push_type.ensures in
    let at = c.array_at.ensures n (omega arith) in
    let more = few_more list found in
    record {
      are = arrays_on types n list c.push_type.new.arrays.list.items found is.are at goes.arrays;
      placed = places_on types n list c.push_type.new.arrays.list.items places c.push_type.new.arrays.places.items found is.count is.placed at goes;
      count = omega (arith, is.count, ap length goes.places, length_push places (option_map (λ _. length list) found));
      few = omega (arith, is.few, more, ap length goes.arrays);
    }

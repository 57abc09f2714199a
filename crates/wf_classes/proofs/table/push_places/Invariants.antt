use Rattle.std.proofs.Common.{◌≡◌, ◌++◌, map, take}
use Rattle.wf_classes.specs.KeyedLists.{place_of}
use Rattle.wf_classes.proofs.table.push_places.Given as goal

abbrev pub invariant-loop-member : goal.invariant-loop-member
invariant-loop-member l = l.places.items ≡ l.initial.places.items ++ map (place_of l.class) (take l.member-index l.keyed)

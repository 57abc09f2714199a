use Rattle.std.proofs.Common.{◌≡◌, map, take}
use Rattle.std.specs.List.{filter_map}
use Rattle.wf_classes.specs.World.{class_of, number}
use Rattle.wf_classes.proofs.links.superinterfaces_of.Given as goal

abbrev pub invariant-loop-name : goal.invariant-loop-name
invariant-loop-name l = map number l.numbers.items ≡ filter_map (class_of l.list) (take l.name-index l.names)

use Rattle.std.proofs.Common.{◌≡◌, take, Some}
use Rattle.std.specs.Prelude.{map}
use Rattle.wf_blocks.specs.Methods.{all_some, catcher_of}
use Rattle.wf_blocks.proofs.method.catchers_of.Given as goal

abbrev pub invariant-loop-handler : goal.invariant-loop-handler
invariant-loop-handler l = all_some (map (catcher_of l.pool l.places l.size) (take l.handler-index l.table)) ≡ Some l.catchers.items

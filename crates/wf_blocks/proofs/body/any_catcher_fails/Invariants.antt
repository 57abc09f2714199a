use Rattle.std.proofs.Common.{◌≡◌, false, take}
use Rattle.std.specs.List.{list_any}
use Rattle.wf_blocks.specs.Bodies.{catcher_fails}
use Rattle.wf_blocks.proofs.body.any_catcher_fails.Given as goal

abbrev pub invariant-loop-catcher : goal.invariant-loop-catcher
invariant-loop-catcher l = list_any (catcher_fails l.max_stack l.place) (take l.catcher-index l.catchers) ≡ false

use Rattle.std.proofs.Common.{[], ◌-◌, ◌≤◌, length, take}
use Rattle.wf_classes.specs.Closing.{IsReleasing}
use Rattle.wf_classes.proofs.closing.released_in_order.Given as goal

-- the classes below `next` of the order are done
abbrev pub invariant-loop-next : goal.invariant-loop-next
invariant-loop-next l = record {
  state : IsReleasing l.waits l.initial.waiting.items (take l.next l.order.items) [] l.waiting.items l.order.items;
  upto : l.next ≤ length l.order.items;
}

abbrev pub decreases-loop-next : goal.decreases-loop-next
decreases-loop-next l = length l.initial.waiting.items - l.next

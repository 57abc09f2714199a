use Rattle.std.proofs.Common.{◌≡◌, ◌+◌, length, reverse}
use Rattle.wf_init.proofs.Walking.{Keeps, AreInside, left_of}
use Rattle.wf_init.proofs.init_order.Given as goal

abbrev pub invariant-loop-task : goal.invariant-loop-task
invariant-loop-task l = record {
  keeps : Keeps l.classes l.fn.c.0 (reverse l.tasks.items) l.begun.items l.order.items;
  inside : AreInside (length l.classes) l.tasks.items;
  count : length l.begun.items ≡ length l.classes;
}

abbrev pub decreases-loop-task : goal.decreases-loop-task
decreases-loop-task l = left_of l.classes 0 l.begun.items + length l.tasks.items

use Rattle.std.proofs.Common.{◌≡◌, ◌-◌, []}
use Rattle.wf_actions.specs.Named.{with_components}
use Rattle.wf_actions.proofs.named.components.Given as goal

abbrev pub invariant-loop : goal.invariant-loop
invariant-loop l = with_components l.fn.types [] l.fn.count l.fn.name ≡ with_components l.types l.found.items (l.fn.count - l.counter) l.left

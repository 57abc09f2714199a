use Rattle.std.proofs.Common.{◌≡◌, ◌++◌, drop}
use Rattle.wf_rows.specs.Renaming.{all_renamed}
use Rattle.wf_rows.specs.Arrays.{component_rows}
use Rattle.wf_rows.proofs.arrays.push_components.Given as goal

abbrev pub invariant-loop-component : goal.invariant-loop-component
invariant-loop-component g l =
    l.rows.items ++ all_renamed (g.C.Context.number l.context) (component_rows l.known l.outer (drop l.component-index l.components))
    ≡ l.fn.rows.items ++ all_renamed (g.C.Context.number l.context) (component_rows l.known l.fn.array l.components)

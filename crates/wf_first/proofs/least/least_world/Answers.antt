use Rattle.std.proofs.Common.{List, ap, ◌∙◌}
use Rattle.wf_data.specs.declared.class_info.ClassInfo.{ClassInfo}
use Rattle.wf_sys.specs.declared.flow.Flow.{Flow}
use Rattle.wf_first.specs.Solution.{by_name, entered_in}
use Rattle.wf_first.proofs.LeastWorld.{least_world}
use Rattle.wf_first.proofs.least.least_world.Goals as goal

pub returns : goal.returns
returns c =
    let nodes = c.in_ok-nodes.nodes in
    let values = c.in_ok-values.values.items in
    rw (c.new.ensures, c.new-2.ensures, c.new-3.ensures)
    (least_world c.args.program.now.classes c.args.program.now.root c.requires c.tests_decide.ensures.empty (by_name nodes values) c.in_ok-values.ensures c.in_ok-entered_in.field-0.items c.in_ok-methods.methods
    (c.in_ok-entered_in.ensures ∙ ap (λ (vs : List Flow). entered_in (by_name nodes vs) c.as_slice-2.result.now) c.deref.ensures.value ∙ ap (λ (cs : List ClassInfo). entered_in (by_name nodes values) cs) c.as_slice-2.ensures)
    c.in_ok-methods.ensures)

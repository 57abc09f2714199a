use Rattle.std.proofs.Common.{List, sym, ap, subst, ◌∙◌}
use Rattle.wf_data.specs.declared.class_info.ClassInfo.{ClassInfo}
use Rattle.wf_sys.specs.declared.flow.Flow.{Flow}
use Rattle.wf_sys.specs.System.{Least}
use Rattle.wf_sys.specs.Program.{Row, Seed}
use Rattle.wf_first.specs.Nodes.{place_of}
use Rattle.wf_first.specs.Rows.{rows_of}
use Rattle.wf_first.specs.Solution.{by_name}
use Rattle.wf_first.proofs.Solving.{rows_fit, solution_by_name, written_over}
use Rattle.wf_first.proofs.least.solution.Goals as goal

pub solve-requires : goal.solve-requires
solve-requires c =
    let made = c.deref.ensures.value ∙ c.in_ok-rows.ensures ∙ ap (λ (cs : List ClassInfo). rows_of (place_of c.args.nodes.now) cs) c.as_slice.ensures in
    rows_fit c.args.program.now.classes c.args.program.now.root c.requires.form c.args.nodes.now c.requires.nodes c.deref.result.now made c.deref_mut.result.now (c.deref_mut.ensures.value ∙ c.in_ok-values.ensures)

pub returns : goal.returns
returns c =
    let made = c.deref.ensures.value ∙ c.in_ok-rows.ensures ∙ ap (λ (cs : List ClassInfo). rows_of (place_of c.args.nodes.now) cs) c.as_slice.ensures in
    let least = solution_by_name c.args.program.now.classes c.args.program.now.root c.requires.form c.args.nodes.now c.requires.nodes
    c.deref.result.now made c.deref_mut.result.now c.solve.new.values (c.deref_mut.ensures.value ∙ c.in_ok-values.ensures) c.solve.auto.values c.solve.ensures in
    let long = c.solve.auto.values ∙ c.deref_mut.ensures.len in
    subst (λ (vs : List Flow). Least (Row c.args.program.now.classes) (Seed c.args.program.now.root) (by_name c.args.nodes.now vs)) (sym (written_over c.in_ok-values.values.len c.solve.new.values c.in_ok-values.values.items long)) least

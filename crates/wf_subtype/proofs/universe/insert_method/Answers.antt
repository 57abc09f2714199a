use Rattle.std.proofs.Common.{List, ℕ, subst}
use Rattle.wf_subtype.specs.Universe.{InsertsArrays, CodeMakes, MethodMakes}
use Rattle.wf_subtype.proofs.Collecting.{on_ok}
use Rattle.wf_subtype.proofs.Making.{method_makes, no_method}
use Rattle.wf_subtype.proofs.universe.insert_method.Goals as goal

pub returns-in-Some : goal.returns-in-Some
returns-in-Some c =
    let classes = c.args.classes.now in
    let old = c.args.types.now.keys in
    let new = c.insert_code.new.types.keys in
    let pool = c.args.pool.now in
    on_ok c.insert_code.result (InsertsArrays classes old new (CodeMakes pool c.as_slice.result.now)) (InsertsArrays classes old new (MethodMakes pool c.args.method.now))
    (λ h. method_makes classes old new pool c.args.method.now c.in-Some.code c.in-Some.is (subst (λ (q : List ℕ). InsertsArrays classes old new (CodeMakes pool q)) c.as_slice.ensures h))
    c.insert_code.ensures

pub returns-in-None : goal.returns-in-None
returns-in-None c = no_method c.args.classes.now c.args.types.now.keys c.args.pool.now c.args.method.now c.in-None.is

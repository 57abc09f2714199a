use Rattle.std.proofs.Common.{List, subst}
use Rattle.wf_data.specs.declared.instr.Placed.{Placed}
use Rattle.wf_opcode.specs.Instructions.{IsFault}
use Rattle.wf_opcode.specs.declared.fault.DecodeFault.{DecodeFault}
use Rattle.wf_subtype.specs.Universe.{InsertsArrays, MakesOne, CodeMakes}
use Rattle.wf_subtype.proofs.Collecting.{on_ok}
use Rattle.wf_subtype.proofs.Making.{code_makes, no_code}
use Rattle.wf_subtype.proofs.universe.insert_code.Goals as goal

pub returns-in-Ok : goal.returns-in-Ok
returns-in-Ok c =
    let classes = c.args.classes.now in
    let old = c.args.types.now.keys in
    let new = c.insert_all_made.new.types.keys in
    let pool = c.args.pool.now in
    let code = c.args.code.now in
    on_ok c.insert_all_made.result (InsertsArrays classes old new (MakesOne pool c.as_slice.result.now)) (InsertsArrays classes old new (CodeMakes pool code))
    (λ h. code_makes classes old new pool code c.in-Ok.placed c.in-Ok.ensures.ok (subst (λ (q : List Placed). InsertsArrays classes old new (MakesOne pool q)) c.as_slice.ensures h))
    c.insert_all_made.ensures

pub returns-in-Err-BadCode : goal.returns-in-Err-BadCode
returns-in-Err-BadCode c = no_code c.args.classes.now c.args.types.now.keys c.args.pool.now c.args.code.now c.in-Err-BadCode.field-0-0 (subst (λ (f : DecodeFault). IsFault c.args.code.now f) c.in-Err-BadCode.field-0-is c.in-Err-BadCode.ensures.err)

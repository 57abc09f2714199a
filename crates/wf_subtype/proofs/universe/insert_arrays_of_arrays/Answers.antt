use Rattle.std.proofs.Common.{◌∙◌, sym}
use Rattle.wf_subtype.specs.Universe.{InsertsArrays, Makes, IsComponent}
use Rattle.wf_subtype.proofs.Collecting.{on_ok}
use Rattle.wf_subtype.proofs.Making.{components_made, no_components}
use Rattle.wf_subtype.proofs.universe.insert_arrays_of_arrays.Goals as goal

pub returns-in-Some-second_operand : goal.returns-in-Some-second_operand
returns-in-Some-second_operand c =
    let classes = c.args.classes.now in
    let old = c.args.types.now.keys in
    let new = c.insert_components.new.types.keys in
    let lengths = c.in-Some-second_operand.lengths in
    on_ok c.insert_components.result (InsertsArrays classes old new (IsComponent c.in-Some.outer.now lengths)) (InsertsArrays classes old new (Makes c.args.pool.now c.args.instr.now))
    (components_made classes old new c.args.pool.now c.args.instr.now c.in-Some.outer.now lengths c.requires.op (sym c.in-Some.ensures) (sym c.second_operand.ensures ∙ c.in-Some-second_operand.is))
    c.insert_components.ensures

pub returns-in-None-second_operand : goal.returns-in-None-second_operand
returns-in-None-second_operand c =
    no_components c.args.classes.now c.args.types.now.keys c.args.pool.now c.args.instr.now c.requires.op (λ outer lengths e f. absurd (cc (f, c.second_operand.ensures, c.in-None-second_operand.is)))

pub returns-in-None : goal.returns-in-None
returns-in-None c = no_components c.args.classes.now c.args.types.now.keys c.args.pool.now c.args.instr.now c.requires.op (λ outer lengths e f. absurd (cc (e, c.in-None.ensures)))

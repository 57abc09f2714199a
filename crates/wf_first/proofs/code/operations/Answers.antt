use Rattle.std.proofs.Common.{◌∙◌, sym, ap, arith}
use Rattle.std.proofs.lemmas.List.{take_rest}
use Rattle.wf_first.specs.Code.{operation_in, operations_from}
use Rattle.wf_first.proofs.CodeLaws.{goes_on, stops}
use Rattle.wf_first.proofs.code.operations.Goals as goal

pub returns-in_default : goal.returns-in_default
returns-in_default c =
    let code = c.args.code.now in
    let pc = c.loop-pc.pc in
    let no_instruction = ap operation_in (sym (take_rest code pc)) ∙ sym c.operation_in.ensures ∙ c.in_default.is in
    let none = stops c.loop-pc.found.items pc code (operations_from 0 0 code) (omega (arith, c.loop-pc-test.true)) no_instruction c.loop-pc.invariant in
    grind (arith, sym none, c.if-code-gt65535.false)

pub loop-pc-preserved : goal.loop-pc-preserved
loop-pc-preserved c =
    let code = c.args.code.now in
    let pc = c.loop-pc.pc in
    let instruction = ap operation_in (sym (take_rest code pc)) ∙ sym c.operation_in.ensures ∙ c.in-Some.is in
    let next = goes_on c.loop-pc.found.items pc code c.in-Some.operation (operations_from 0 0 code) instruction c.loop-pc.invariant in
    rw (c.in_ok-push.ensures.items, c.size_of-pc.ensures) next

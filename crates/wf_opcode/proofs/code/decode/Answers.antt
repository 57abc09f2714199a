use Rattle.std.proofs.Common.{◌<◌, length, arith, rules}
use Rattle.wf_base.specs.Bytes.{IsBytes}
use Rattle.wf_opcode.proofs.InstructionLaws.{begins, stops, gets_smaller}
use Rattle.wf_opcode.proofs.code.decode.Goals as goal

pub loop-reader-init : goal.loop-reader-init
loop-reader-init c =
    let fits : IsBytes c.args.code.now = record { each = λ i. omega (arith, c.type_inv.code i) } in
    rw (c.new-found.ensures.items, c.new-reader.ensures) (begins c.args.code.now fits)

pub returns-in-Err-NoInstruction-clause-err : goal.returns-in-Err-NoInstruction-clause-err
returns-in-Err-NoInstruction-clause-err c =
    let fails = rw (c.in-Err-NoInstruction.field-0-is, c.at-pc.ensures) at c.in-Err-NoInstruction.ensures in
    let more : 0 < length c.loop-reader.reader.cursor.left = search rules in
    rw c.at-pc.ensures (stops c.args.code.now c.loop-reader.found.items c.loop-reader.reader.cursor c.loop-reader.invariant more fails)

pub loop-reader-smaller : goal.loop-reader-smaller
loop-reader-smaller c =
    let read = rw c.at-pc.ensures at c.in-Ok.ensures in
    gets_smaller c.args.code.now c.loop-reader.found.items c.loop-reader.reader.cursor c.instruction.new.self.cursor c.in-Ok.instr c.loop-reader.invariant read

use Rattle.std.proofs.Common.{length}
use Rattle.wf_opcode.proofs.InstructionLaws.{IsReached}
use Rattle.wf_opcode.proofs.code.decode.Given as goal

abbrev pub invariant-loop-reader : goal.invariant-loop-reader
invariant-loop-reader l = IsReached l.code l.found.items l.reader.cursor

abbrev pub decreases-loop-reader : goal.decreases-loop-reader
decreases-loop-reader l = length l.reader.cursor.left

use Rattle.wf_opcode.proofs.InstructionLaws.{one_list, one_fault, not_both}
use Rattle.wf_opcode.proofs.code.a_code_is_read_in_one_way.Goals as goal

pub returns-clause-instructions : goal.returns-clause-instructions
returns-clause-instructions c = one_list

pub returns-clause-fault : goal.returns-clause-fault
returns-clause-fault c = one_fault

pub returns-clause-apart : goal.returns-clause-apart
returns-clause-apart c = not_both

-- A code has no more instructions than bytes.
use Rattle.std.proofs.Common.{ℕ, ◌≤◌, ◌<◌, List, length, ◌+◌, ap, ◌∙◌, arith}
use Rattle.std.proofs.lemmas.List.{length-append}
use Rattle.wf_data.specs.declared.instr.Instr.{Instr}
use Rattle.wf_data.specs.declared.instr.Placed.{Placed}
use Rattle.wf_opcode.specs.Instructions.{Instructions, InstructionIs}
use Rattle.wf_opcode.specs.Instructions.Instructions.{no_more, one_more}

takes_bytes : (pc : ℕ) (first : List ℕ) (i : Instr) → InstructionIs pc first i → 0 < length first
takes_bytes pc first i h = (let opcode = ap length h.front.spelled in let parts = ap length h.parts ∙ length-append h.first h.second in omega (arith, opcode, parts))

pub few_instructions : (pc : ℕ) (code : List ℕ) (placed : List Placed) → Instructions pc code placed → length placed ≤ length code
few_instructions pc code placed (no_more _) = omega arith
few_instructions pc code placed (one_more _ first rest i others is more) =
    let behind = few_instructions (pc + length first) rest others more in
    omega (arith, behind, takes_bytes pc first i is, length-append first rest)

-- The code of a method as a list of instructions (JVMS 4.9.1, 6.5). Written so far: the int constants
-- iconst_m1 to iconst_5, invokestatic, ireturn and return.
use Rattle.std.specs.Prelude.{ℕ, zero, suc, ◌+◌, ◌-◌, ◌*◌, pos, ◌-ℤ◌, ◌&&◌, List, [], ◌∷◌, Option, Some, None, ◌==◌, nat_le, nat_lt, length, option_and_then, option_map, if◌then◌else◌}
use Rattle.wf_first.specs.declared.code.Operation.{Operation}
use Rattle.wf_first.specs.declared.code.Operation.TheVariants.{IntConstant, InvokeStatic, IntReturn, Return}
use Rattle.wf_first.specs.declared.code.Placed.{Placed}

-- an instruction of one byte
abbrev pub narrow : ℕ → Option Operation
narrow opcode =
    if nat_le 0x02 opcode && nat_le opcode 0x08 then Some (IntConstant (pos opcode -ℤ pos 3))
    else (if opcode == 0xAC then Some IntReturn else (if opcode == 0xB1 then Some Return else None))

-- an invokestatic, by the bytes behind its opcode
abbrev pub invoke_static : List ℕ → Option Operation
invoke_static [] = None
invoke_static (high ∷ []) = None
invoke_static (high ∷ low ∷ rest) = Some (InvokeStatic (256 * high + low))

-- the instruction with which the bytes begin
abbrev pub operation_in : List ℕ → Option Operation
operation_in [] = None
operation_in (opcode ∷ rest) = if opcode == 0xB8 then invoke_static rest else narrow opcode

-- how many bytes it has
abbrev pub size_of : Operation → ℕ
size_of (IntConstant c) = 1
size_of (InvokeStatic place) = 3
size_of IntReturn = 1
size_of Return = 1

-- an instruction before others
abbrev pub placed_before : ℕ → Operation → List Placed → List Placed
placed_before pc o behind = record { pc = pc; operation = o } ∷ behind

-- The instructions of the bytes, the first of which stands at the place pc, where `skip` more bytes still
-- belong to the instruction before them.
unfoldable pub operations_from : ℕ → ℕ → List ℕ → Option (List Placed)
operations_from skip pc [] = Some []
operations_from (suc skip) pc (b ∷ bytes) = operations_from skip (pc + 1) bytes
operations_from zero pc (b ∷ bytes) = option_and_then (λ o. option_map (placed_before pc o) (operations_from (size_of o - 1) (pc + 1) bytes)) (operation_in (b ∷ bytes))

-- The instructions of a code of at most 65535 bytes (JVMS 4.7.3).
abbrev pub operations : List ℕ → Option (List Placed)
operations code = if nat_lt 65535 (length code) then None else operations_from 0 0 code

-- The instructions that the bytes of a code are (JVMS 4.9.1, 6.5), in their long forms.
use Rattle.std.specs.Prelude.{◌≡◌, ℕ, ◌+◌, ◌-◌, ◌%◌, ◌^◌, ◌<◌, ℤ, pos, negsuc, ◌+ℤ◌, ◌-ℤ◌, unsigned_abs, int_le, Bool, ◌&&◌, ◌||◌, List, [], ◌∷◌, ◌++◌, length, Option, Some, None, ◌==◌, nat_le, nat_lt, if◌then◌else◌}
use Rattle.std.specs.Int.{w8, w16, w32, cast_signed}
use Rattle.wf_data.specs.declared.instr.Case.{Case}
use Rattle.wf_data.specs.declared.instr.Instr.{Instr}
use Rattle.wf_data.specs.declared.instr.Placed.{Placed}
use Rattle.wf_bytes.specs.Grammar.{U1, U2, U4, Run, Is, Then, Where, Given, Choice, Many, ManyOn}
use Rattle.wf_opcode.specs.declared.form.Form.{Form}
use Rattle.wf_opcode.specs.declared.form.Form.TheVariants as form
use Rattle.wf_opcode.specs.declared.form.Row.{Row}
use Rattle.wf_opcode.specs.declared.fault.DecodeFault.{DecodeFault}
use Rattle.wf_opcode.specs.declared.fault.DecodeFault.TheVariants.{BadCode, NoMemory}
use Rattle.wf_opcode.specs.Table.{row_of}

-- an instruction that is no switch (this project's own)
abbrev pub instr_of : ℕ → ℤ → ℤ → Instr
instr_of op a b = record { op = op; a = a; b = b; cases = [] }

-- a switch, by its default target and its cases (this project's own)
abbrev pub switch_of : ℕ → ℕ → List Case → Instr
switch_of op target cases = record { op = op; a = pos target; b = pos 0; cases = cases }

-- a case of a switch (JVMS 6.5, lookupswitch)
abbrev pub case_of : ℤ → ℕ → Case
case_of key target = record { key = key; target = target }

-- a number as a place in a code, which has at most 65535 bytes (JVMS 4.7.3)
abbrev pub place_of : ℤ → Option ℕ
place_of (pos n) = if nat_lt n 65536 then Some n else None
place_of (negsuc n) = None

-- where a jump leads that stands in the instruction at pc and goes this far (JVMS 6.5, goto)
abbrev pub target_of : ℕ → ℤ → Option ℕ
target_of pc far = place_of (pos pc +ℤ far)

-- how many bytes stand between the opcode of a switch at pc and the next multiple of four (JVMS 6.5, tableswitch)
abbrev pub padding : ℕ → ℕ
padding pc = 3 - pc % 4

-- whether the instruction takes a local of two bytes behind wide (JVMS 6.5, wide)
abbrev pub is_widened : ℕ → Bool
is_widened opcode = (nat_le 0x15 opcode && nat_le opcode 0x19) || (nat_le 0x36 opcode && nat_le opcode 0x3A) || opcode == 0xA9

-- where a switch or a long jump at pc leads, by four bytes (JVMS 6.5, tableswitch, goto_w)
abbrev pub TargetIs : ℕ → List ℕ → ℕ → Type 0
TargetIs pc = Then U4 (λ far. Given (target_of pc (cast_signed w32 far)) Is)

-- an entry of a tableswitch at pc, for this key, and the key of the next entry (JVMS 6.5, tableswitch)
abbrev pub TableCase : ℕ → ℤ → List ℕ → Case × ℤ → Type 0
TableCase pc key = Then (TargetIs pc) (λ target. Is (case_of key target, key +ℤ pos 1))

-- a pair of a lookupswitch at pc (JVMS 6.5, lookupswitch)
abbrev pub LookupCase : ℕ → List ℕ → Case → Type 0
LookupCase pc = Then U4 (λ key. Then (TargetIs pc) (λ target. Is (case_of (cast_signed w32 key) target)))

-- how many entries a tableswitch has (JVMS 6.5, tableswitch)
abbrev pub entries : ℤ → ℤ → ℕ
entries low high = unsigned_abs (high -ℤ low) + 1

-- behind the opcode of a tableswitch at pc (JVMS 6.5, tableswitch)
abbrev pub TableIs : ℕ → ℕ → List ℕ → Instr → Type 0
TableIs pc op =
    Then (Run (padding pc)) (λ skipped. Then (TargetIs pc) (λ target. Then U4 (λ low. Then U4 (λ high.
    Where (int_le (cast_signed w32 low) (cast_signed w32 high)) (
    Then (ManyOn (TableCase pc) (entries (cast_signed w32 low) (cast_signed w32 high)) (cast_signed w32 low)) (λ cases.
    Is (switch_of op target cases.0)))))))

-- behind the opcode of a lookupswitch at pc (JVMS 6.5, lookupswitch)
abbrev pub LookupIs : ℕ → ℕ → List ℕ → Instr → Type 0
LookupIs pc op =
    Then (Run (padding pc)) (λ skipped. Then (TargetIs pc) (λ target. Then U4 (λ count.
    Where (nat_lt count (2 ^ 31)) (
    Then (Many (LookupCase pc) count) (λ cases. Is (switch_of op target cases))))))

-- behind wide (JVMS 6.5, wide)
abbrev pub WideIs : List ℕ → Instr → Type 0
WideIs =
    Then U1 (λ op. Choice (op == 0x84)
    (Then U2 (λ local. Then U2 (λ constant. Is (instr_of op (pos local) (cast_signed w16 constant)))))
    (Where (is_widened op) (Then U2 (λ local. Is (instr_of op (pos local) (pos 0))))))

-- what stands behind the opcode of an instruction at pc, by its row (JVMS 6.5)
abbrev pub OperandsAre : Form → ℕ → Row → List ℕ → Instr → Type 0
OperandsAre form.Alone pc row = Is (instr_of row.op row.value (pos 0))
OperandsAre form.S1 pc row = Then U1 (λ n. Is (instr_of row.op (cast_signed w8 n) (pos 0)))
OperandsAre form.S2 pc row = Then U2 (λ n. Is (instr_of row.op (cast_signed w16 n) (pos 0)))
OperandsAre form.U1 pc row = Then U1 (λ n. Is (instr_of row.op (pos n) (pos 0)))
OperandsAre form.U2 pc row = Then U2 (λ n. Is (instr_of row.op (pos n) (pos 0)))
OperandsAre form.Jump2 pc row = Then U2 (λ far. Given (target_of pc (cast_signed w16 far)) (λ target. Is (instr_of row.op (pos target) (pos 0))))
OperandsAre form.Jump4 pc row = Then (TargetIs pc) (λ target. Is (instr_of row.op (pos target) (pos 0)))
OperandsAre form.Iinc pc row = Then U1 (λ local. Then U1 (λ constant. Is (instr_of row.op (pos local) (cast_signed w8 constant))))
OperandsAre form.Invoke pc row = Then U2 (λ i. Then (Run 2) (λ skipped. Is (instr_of row.op (pos i) (pos 0))))
OperandsAre form.NewArray pc row = Then U1 (λ code. Where (nat_le 4 code && nat_le code 11) (Is (instr_of row.op (pos code) (pos 0))))
OperandsAre form.MultiArray pc row = Then U2 (λ i. Then U1 (λ count. Is (instr_of row.op (pos i) (pos count))))
OperandsAre form.TableSwitch pc row = TableIs pc row.op
OperandsAre form.LookupSwitch pc row = LookupIs pc row.op
OperandsAre form.Wide pc row = WideIs

-- the bytes are this instruction, at the place pc (JVMS 6.5)
abbrev pub InstructionIs : ℕ → List ℕ → Instr → Type 0
InstructionIs pc = Then U1 (λ opcode. Given (row_of opcode) (λ row. OperandsAre row.form pc row))

-- an instruction at its place (JVMS 4.9.1)
abbrev pub placed_at : ℕ → Instr → Placed
placed_at pc i = record { pc = pc; instr = i }

-- the bytes from the place pc on are whole instructions, one after another, each with its place (JVMS 4.9.1)
pub data Instructions : ℕ → List ℕ → List Placed → Type 0 where
  no_more : (pc : ℕ) → Instructions pc [] []
  one_more : (pc : ℕ) (first rest : List ℕ) (i : Instr) (others : List Placed)
      → InstructionIs pc first i → Instructions (pc + length first) rest others → Instructions pc (first ++ rest) (placed_at pc i ∷ others)

-- some bytes are left, and no beginning of them is an instruction at the place pc (JVMS 4.9.1)
pub record NoneStarts (pc : ℕ) (rest : List ℕ) : Type 0 where
  pub more : 0 < length rest
  pub none : (first behind : List ℕ) (i : Instr) → rest ≡ first ++ behind → InstructionIs pc first i → ⊥

-- The first place of a code where no whole instruction starts: what stands before it is whole instructions
-- (this project's own).
pub record IsBadAt (code : List ℕ) (pc : ℕ) : Type 0 where
  pub front : List ℕ
  pub rest : List ℕ
  pub before : List Placed
  pub parts : code ≡ front ++ rest
  pub place : pc ≡ length front
  pub whole : Instructions 0 front before
  pub stuck : NoneStarts pc rest

-- a fault of a code (this project's own)
abbrev pub IsFault : List ℕ → DecodeFault → Type 0
IsFault code (BadCode pc) = IsBadAt code pc
IsFault code NoMemory = Unit {0}

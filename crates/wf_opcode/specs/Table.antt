-- The table of the instructions (JVMS 6.5, 7): for each opcode what stands behind it, and the long form that it
-- is written in. Opcodes above c9 have no row.
use Rattle.std.specs.Prelude.{ℕ, ◌+◌, ◌-◌, ◌/◌, ◌%◌, ℤ, pos, ◌-ℤ◌, Bool, not, ◌&&◌, ◌||◌, Option, Some, None, ◌==◌, nat_le, nat_lt, option_and_then, if◌then◌else◌}
use Rattle.wf_data.specs.declared.what.What.{What}
use Rattle.wf_data.specs.declared.what.What.TheVariants as what
use Rattle.wf_opcode.specs.declared.form.Form.{Form}
use Rattle.wf_opcode.specs.declared.form.Form.TheVariants as form
use Rattle.wf_opcode.specs.declared.form.Row.{Row}

-- an instruction that is its own long form (this project's own)
abbrev pub plain : Form → ℕ → Row
plain f opcode = record { form = f; op = opcode; value = pos 0; refused = None }

-- a short form of another opcode, for this constant or local (this project's own)
abbrev pub short : ℕ → ℤ → Row
short long value = record { form = form.Alone; op = long; value = value; refused = None }

-- an instruction that is refused (this project's own)
abbrev pub refused_row : What → Row → Row
refused_row w r = record r { refused = Some w }

-- an instruction that is refused as one on floats where the test holds (this project's own)
abbrev pub float_if : Bool → Row → Row
float_if test r = if test then refused_row what.Float r else r

-- of int, long, float, double and reference, in this order, float and double (JVMS 6.5)
abbrev pub is_float_kind : ℕ → Bool
is_float_kind k = nat_le 2 k && nat_le k 3

-- 00 to 14: nop and the constants
unfoldable pub constant_row : ℕ → Row
constant_row opcode =
    if nat_le opcode 0x01 then plain form.Alone opcode
    else (if nat_le opcode 0x08 then short 0x10 (pos opcode -ℤ pos 3)
    else (if nat_le opcode 0x0A then short 0x09 (pos opcode -ℤ pos 9)
    else (if nat_le opcode 0x0F then refused_row what.Float (plain form.Alone opcode)
    else (if opcode == 0x10 then plain form.S1 opcode
    else (if opcode == 0x11 then plain form.S2 opcode
    else (if opcode == 0x12 then plain form.U1 opcode
    else (if opcode == 0x13 then plain form.U2 0x12
    else plain form.U2 opcode)))))))

-- 15 to 35: loads
unfoldable pub load_row : ℕ → Row
load_row opcode =
    if nat_le opcode 0x19 then float_if (is_float_kind (opcode - 0x15)) (plain form.U1 opcode)
    else (if nat_le opcode 0x2D then float_if (is_float_kind ((opcode - 0x1A) / 4)) (short (0x15 + (opcode - 0x1A) / 4) (pos ((opcode - 0x1A) % 4)))
    else float_if (is_float_kind (opcode - 0x2E)) (plain form.Alone opcode))

-- 36 to 56: stores
unfoldable pub store_row : ℕ → Row
store_row opcode =
    if nat_le opcode 0x3A then float_if (is_float_kind (opcode - 0x36)) (plain form.U1 opcode)
    else (if nat_le opcode 0x4E then float_if (is_float_kind ((opcode - 0x3B) / 4)) (short (0x36 + (opcode - 0x3B) / 4) (pos ((opcode - 0x3B) % 4)))
    else float_if (is_float_kind (opcode - 0x4F)) (plain form.Alone opcode))

-- 57 to 98: the stack, arithmetic, conversions and comparisons
unfoldable pub arithmetic_row : ℕ → Row
arithmetic_row opcode =
    if nat_le opcode 0x5F then plain form.Alone opcode
    else (if nat_le opcode 0x77 then float_if (is_float_kind ((opcode - 0x60) % 4)) (plain form.Alone opcode)
    else (if nat_le opcode 0x83 then plain form.Alone opcode
    else (if opcode == 0x84 then plain form.Iinc opcode
    else (if nat_le opcode 0x90 then float_if (not (opcode == 0x85 || opcode == 0x88)) (plain form.Alone opcode)
    else (if nat_le opcode 0x94 then plain form.Alone opcode
    else refused_row what.Float (plain form.Alone opcode))))))

-- 99 to b1: jumps, switches and returns
unfoldable pub control_row : ℕ → Row
control_row opcode =
    if nat_le opcode 0xA7 then plain form.Jump2 opcode
    else (if opcode == 0xA8 then refused_row what.Jsr (plain form.Jump2 opcode)
    else (if opcode == 0xA9 then refused_row what.Jsr (plain form.U1 opcode)
    else (if opcode == 0xAA then plain form.TableSwitch 0xAB
    else (if opcode == 0xAB then plain form.LookupSwitch opcode
    else float_if (is_float_kind (opcode - 0xAC)) (plain form.Alone opcode)))))

-- from b2: fields, methods and objects, and the long forms
unfoldable pub object_row : ℕ → Option Row
object_row opcode =
    if nat_le opcode 0xB8 then Some (plain form.U2 opcode)
    else (if opcode == 0xB9 then Some (plain form.Invoke opcode)
    else (if opcode == 0xBA then Some (refused_row what.InvokeDynamic (plain form.Invoke opcode))
    else (if opcode == 0xBB then Some (plain form.U2 opcode)
    else (if opcode == 0xBC then Some (plain form.NewArray opcode)
    else (if opcode == 0xBD then Some (plain form.U2 opcode)
    else (if nat_le opcode 0xBF then Some (plain form.Alone opcode)
    else (if nat_le opcode 0xC1 then Some (plain form.U2 opcode)
    else (if nat_le opcode 0xC3 then Some (plain form.Alone opcode)
    else (if opcode == 0xC4 then Some (plain form.Wide opcode)
    else (if opcode == 0xC5 then Some (plain form.MultiArray opcode)
    else (if nat_le opcode 0xC7 then Some (plain form.Jump2 opcode)
    else (if opcode == 0xC8 then Some (plain form.Jump4 0xA7)
    else (if opcode == 0xC9 then Some (refused_row what.Jsr (plain form.Jump4 0xA8))
    else None)))))))))))))

-- the row of an opcode
unfoldable pub row_of : ℕ → Option Row
row_of opcode =
    if nat_lt opcode 0x15 then Some (constant_row opcode)
    else (if nat_lt opcode 0x36 then Some (load_row opcode)
    else (if nat_lt opcode 0x57 then Some (store_row opcode)
    else (if nat_lt opcode 0x99 then Some (arithmetic_row opcode)
    else (if nat_lt opcode 0xB2 then Some (control_row opcode)
    else object_row opcode))))

-- as what a method that has an instruction of this opcode is refused, where the opcode alone decides
abbrev pub refused_as : ℕ → Option What
refused_as opcode = option_and_then (λ (r : Row). r.refused) (row_of opcode)

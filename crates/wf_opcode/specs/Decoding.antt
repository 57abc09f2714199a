-- Reading the instruction with which the bytes of a code begin: for each piece of the grammar the function that
-- reads it. Where none is, it fails; which failure it is doesn't count.
use Rattle.std.specs.Prelude.{ℕ, ◌^◌, ℤ, pos, ◌+ℤ◌, int_le, ◌&&◌, Ok, ◌==◌, nat_le, nat_lt, if◌then◌else◌}
use Rattle.std.specs.Int.{w8, w16, w32, cast_signed}
use Rattle.wf_data.specs.declared.instr.Case.{Case}
use Rattle.wf_data.specs.declared.instr.Instr.{Instr}
use Rattle.wf_bytes.specs.declared.fault.Why.TheVariants as why
use Rattle.wf_bytes.specs.Reading.{Reader, ◌>>=◌, wanted, found, number, run, many, many_on}
use Rattle.wf_opcode.specs.declared.form.Form.{Form}
use Rattle.wf_opcode.specs.declared.form.Form.TheVariants as form
use Rattle.wf_opcode.specs.declared.form.Row.{Row}
use Rattle.wf_opcode.specs.Table.{row_of}
use Rattle.wf_opcode.specs.Instructions.{instr_of, switch_of, case_of, target_of, padding, is_widened, entries}

unfoldable pub target : ℕ → Reader ℕ
target pc p = do
  far ← number w32 p
  place ← found (target_of pc (cast_signed w32 far.0)) p.at why.Code
  Ok (place, far.1)

unfoldable pub table_case : ℕ → ℤ → Reader (Case × ℤ)
table_case pc key p = do
  place ← target pc p
  Ok ((case_of key place.0, key +ℤ pos 1), place.1)

unfoldable pub lookup_case : ℕ → Reader Case
lookup_case pc p = do
  key ← number w32 p
  place ← target pc key.1
  Ok (case_of (cast_signed w32 key.0) place.0, place.1)

unfoldable pub table_switch : ℕ → ℕ → Reader Instr
table_switch pc op p = do
  skipped ← run (padding pc) p
  default ← target pc skipped.1
  low ← number w32 default.1
  high ← number w32 low.1
  ordered ← wanted (int_le (cast_signed w32 low.0) (cast_signed w32 high.0)) low.1.at why.Code
  cases ← many_on (table_case pc) (entries (cast_signed w32 low.0) (cast_signed w32 high.0)) (cast_signed w32 low.0) high.1
  Ok (switch_of op default.0 cases.0.0, cases.1)

unfoldable pub lookup_switch : ℕ → ℕ → Reader Instr
lookup_switch pc op p = do
  skipped ← run (padding pc) p
  default ← target pc skipped.1
  count ← number w32 default.1
  counted ← wanted (nat_lt count.0 (2 ^ 31)) default.1.at why.Code
  cases ← many (lookup_case pc) count.0 count.1
  Ok (switch_of op default.0 cases.0, cases.1)

unfoldable pub wide_iinc : ℕ → Reader Instr
wide_iinc op p = do
  local ← number w16 p
  constant ← number w16 local.1
  Ok (instr_of op (pos local.0) (cast_signed w16 constant.0), constant.1)

unfoldable pub wide_local : ℕ → ℕ → Reader Instr
wide_local op at p = do
  known ← wanted (is_widened op) at why.Code
  local ← number w16 p
  Ok (instr_of op (pos local.0) (pos 0), local.1)

unfoldable pub wide : Reader Instr
wide p = do
  op ← number w8 p
  (if op.0 == 0x84 then wide_iinc op.0 op.1 else wide_local op.0 p.at op.1)

unfoldable pub jump2 : ℕ → ℕ → Reader Instr
jump2 pc op p = do
  far ← number w16 p
  place ← found (target_of pc (cast_signed w16 far.0)) p.at why.Code
  Ok (instr_of op (pos place) (pos 0), far.1)

unfoldable pub jump4 : ℕ → ℕ → Reader Instr
jump4 pc op p = do
  place ← target pc p
  Ok (instr_of op (pos place.0) (pos 0), place.1)

unfoldable pub iinc : ℕ → Reader Instr
iinc op p = do
  local ← number w8 p
  constant ← number w8 local.1
  Ok (instr_of op (pos local.0) (cast_signed w8 constant.0), constant.1)

unfoldable pub invoke : ℕ → Reader Instr
invoke op p = do
  i ← number w16 p
  skipped ← run 2 i.1
  Ok (instr_of op (pos i.0) (pos 0), skipped.1)

unfoldable pub new_array : ℕ → Reader Instr
new_array op p = do
  code ← number w8 p
  known ← wanted (nat_le 4 code.0 && nat_le code.0 11) p.at why.Code
  Ok (instr_of op (pos code.0) (pos 0), code.1)

unfoldable pub multi_array : ℕ → Reader Instr
multi_array op p = do
  i ← number w16 p
  count ← number w8 i.1
  Ok (instr_of op (pos i.0) (pos count.0), count.1)

unfoldable pub operands : Form → ℕ → Row → Reader Instr
operands form.Alone pc row p = Ok (instr_of row.op row.value (pos 0), p)
operands form.S1 pc row p = number w8 p >>= λ n. Ok (instr_of row.op (cast_signed w8 n.0) (pos 0), n.1)
operands form.S2 pc row p = number w16 p >>= λ n. Ok (instr_of row.op (cast_signed w16 n.0) (pos 0), n.1)
operands form.U1 pc row p = number w8 p >>= λ n. Ok (instr_of row.op (pos n.0) (pos 0), n.1)
operands form.U2 pc row p = number w16 p >>= λ n. Ok (instr_of row.op (pos n.0) (pos 0), n.1)
operands form.Jump2 pc row p = jump2 pc row.op p
operands form.Jump4 pc row p = jump4 pc row.op p
operands form.Iinc pc row p = iinc row.op p
operands form.Invoke pc row p = invoke row.op p
operands form.NewArray pc row p = new_array row.op p
operands form.MultiArray pc row p = multi_array row.op p
operands form.TableSwitch pc row p = table_switch pc row.op p
operands form.LookupSwitch pc row p = lookup_switch pc row.op p
operands form.Wide pc row p = wide p

-- the instruction at the place pc
unfoldable pub instruction : ℕ → Reader Instr
instruction pc p = do
  opcode ← number w8 p
  row ← found (row_of opcode.0) p.at why.Code
  operands row.form pc row opcode.1

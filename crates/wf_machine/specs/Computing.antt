-- Constants, arithmetic and conversions, and what only moves values and control (JVMS 6.5).
use Rattle.std.specs.Prelude.{◌≡◌, ℕ, ℤ, pos, Bool, true, false, List, length, position, slice_index_or, Option, Some, None}
use Rattle.std.specs.Int.{w32, w64, int_wrapping_add}
use Rattle.std.specs.Ordering.{int_eq}
use Rattle.wf_base.specs.Comparisons.{compares}
use Rattle.wf_base.specs.declared.cmp.Cmp.{Cmp}
use Rattle.wf_data.specs.declared.instr.Case.{Case}
use Rattle.wf_operation.specs.declared.effect.Effect.TheVariants.{Increments}
use Rattle.wf_operation.specs.declared.next.Next.{Next}
use Rattle.wf_operation.specs.declared.next.Next.TheVariants.{Falls, Jumps, Branches, Switches}
use Rattle.wf_operation.specs.declared.next.Test.{Test}
use Rattle.wf_operation.specs.declared.next.Test.TheVariants.{ToZero, Ints, Refs, ToNull}
use Rattle.wf_operation.specs.declared.sort.Arithmetic.{Arithmetic}
use Rattle.wf_operation.specs.declared.sort.Equality.{Equality}
use Rattle.wf_operation.specs.declared.sort.Narrow.{Narrow}
use Rattle.wf_operation.specs.declared.sort.Shift.{Shift}
use Rattle.wf_operation.specs.declared.sort.Sort.{Sort}
use Rattle.wf_operation.specs.declared.sort.Sort.TheVariants as sort
use Rattle.wf_rows.specs.declared.throwable.Throwable.TheVariants as throwable
use Rattle.wf_machine.specs.Arithmetic.{combined, shifted, negative, narrowed, low_int, order_of}
use Rattle.wf_machine.specs.Values.{Int, Long, Null, same_reference, is_so}
use Rattle.wf_machine.specs.At.{At, Outcome, Goes, Throws, operand, gives}

-- A number that is worked out, by the sort of its instruction. The second operand stands on top; a long is named by its
-- first slot.
pub data Computes (k : At) : Sort → Outcome → Type 0 where
  -- aconst_null
  null : Computes k sort.NullConstant (gives k Null)
  -- iconst, bipush, sipush, and ldc of an int
  int : Computes k sort.IntConstant (gives k (Int k.instruction.number))
  pool_int : Computes k sort.PoolConstant (gives k (Int k.instruction.number))
  -- lconst, and ldc2_w of a long
  long : Computes k sort.LongConstant (gives k (Long k.instruction.number))
  pool_long : Computes k sort.PoolLong (gives k (Long k.instruction.number))
  -- iadd to irem, iand, ior, ixor; a division by 0 throws
  ints : (op : Arithmetic) (a b c : ℤ) → operand k 1 ≡ Int a → operand k 0 ≡ Int b → combined w32 op a b ≡ Some c → Computes k (sort.IntArithmetic op) (gives k (Int c))
  ints_by_zero : (op : Arithmetic) (a b : ℤ) → operand k 1 ≡ Int a → operand k 0 ≡ Int b → combined w32 op a b ≡ None → Computes k (sort.IntArithmetic op) (Throws throwable.Arithmetic)
  longs : (op : Arithmetic) (a b c : ℤ) → operand k 3 ≡ Long a → operand k 1 ≡ Long b → combined w64 op a b ≡ Some c → Computes k (sort.LongArithmetic op) (gives k (Long c))
  longs_by_zero : (op : Arithmetic) (a b : ℤ) → operand k 3 ≡ Long a → operand k 1 ≡ Long b → combined w64 op a b ≡ None → Computes k (sort.LongArithmetic op) (Throws throwable.Arithmetic)
  -- shifts, by an int
  int_shift : (s : Shift) (a b : ℤ) → operand k 1 ≡ Int a → operand k 0 ≡ Int b → Computes k (sort.IntShift s) (gives k (Int (shifted w32 s a b)))
  long_shift : (s : Shift) (a b : ℤ) → operand k 2 ≡ Long a → operand k 0 ≡ Int b → Computes k (sort.LongShift s) (gives k (Long (shifted w64 s a b)))
  -- ineg, lneg
  int_negate : (a : ℤ) → operand k 0 ≡ Int a → Computes k sort.IntNegate (gives k (Int (negative w32 a)))
  long_negate : (a : ℤ) → operand k 1 ≡ Long a → Computes k sort.LongNegate (gives k (Long (negative w64 a)))
  -- iinc, of a local
  increment : (local : ℕ) (a : ℤ) → k.instruction.effect ≡ Increments local → slice_index_or k.slots local Null ≡ Int a → Computes k sort.Increment (gives k (Int (int_wrapping_add w32 a k.instruction.number)))
  -- i2l, l2i, i2b, i2c, i2s, lcmp
  int_to_long : (a : ℤ) → operand k 0 ≡ Int a → Computes k sort.IntToLong (gives k (Long a))
  long_to_int : (a : ℤ) → operand k 1 ≡ Long a → Computes k sort.LongToInt (gives k (Int (low_int a)))
  narrow : (n : Narrow) (a : ℤ) → operand k 0 ≡ Int a → Computes k (sort.Narrow n) (gives k (Int (narrowed n a)))
  compare : (a b : ℤ) → operand k 3 ≡ Long a → operand k 1 ≡ Long b → Computes k sort.CompareLongs (gives k (Int (order_of a b)))

-- what a test says of its operands
pub data Says (k : At) : Test → Bool → Type 0 where
  to_zero : (c : Cmp) (a : ℤ) (b : Bool) → operand k 0 ≡ Int a → compares c a (pos 0) ≡ b → Says k (ToZero c) b
  ints : (c : Cmp) (a1 a2 : ℤ) (b : Bool) → operand k 1 ≡ Int a1 → operand k 0 ≡ Int a2 → compares c a1 a2 ≡ b → Says k (Ints c) b
  refs : (e : Equality) (b : Bool) → is_so e (same_reference (operand k 1) (operand k 0)) ≡ b → Says k (Refs e) b
  to_null : (e : Equality) (b : Bool) → is_so e (same_reference (operand k 0) Null) ≡ b → Says k (ToNull e) b

-- the case of a switch that counts for a key: the first with that key
abbrev pub case_of : List Case → ℤ → Option ℕ
case_of cases key = position (λ (c : Case). int_eq c.key key) cases

-- Which edge control takes, with no value given: loads, stores and stack instructions fall through, jumps, branches and
-- switches lead elsewhere.
pub data Moves (k : At) : Next → Outcome → Type 0 where
  falls : Moves k Falls (gives k Null)
  jumps : (to : ℕ) → Moves k (Jumps to) (gives k Null)
  holds : (test : Test) (to : ℕ) → Says k test true → Moves k (Branches test to) (Goes 0 Null k.memory)
  fails : (test : Test) (to : ℕ) → Says k test false → Moves k (Branches test to) (Goes 1 Null k.memory)
  case : (cases : List Case) (default edge : ℕ) (key : ℤ) → operand k 0 ≡ Int key → case_of cases key ≡ Some edge → Moves k (Switches cases default) (Goes edge Null k.memory)
  default : (cases : List Case) (default : ℕ) (key : ℤ) → operand k 0 ≡ Int key → case_of cases key ≡ None → Moves k (Switches cases default) (Goes (length cases) Null k.memory)

-- Java's arithmetic on ints and longs (JVMS 2.11.3, 2.11.4, 6.5). A width w has its numbers in two's complement: those of
-- w32 are ints, those of w64 longs. A sum, a difference and a product wrap: their lowest bits are left.
use Rattle.std.specs.Prelude.{ℕ, ◌/◌, ◌%◌, ◌^◌, ℤ, pos, negsuc, Bool, true, false, Option, Some, None, if◌then◌else◌, int_rem, int_lt}
use Rattle.std.specs.Int.{Width, w8, w16, w32, w64, cast_unsigned, cast_signed, int_wrap, int_wrapping_add, int_wrapping_sub, int_wrapping_mul, int_wrapping_div, int_wrapping_neg, int_bit_and, int_bit_or, int_bit_xor, int_shl, int_shr}
use Rattle.std.specs.Ordering.{int_eq}
use mir.Val.{bits}
use Rattle.wf_operation.specs.declared.sort.Arithmetic.{Arithmetic}
use Rattle.wf_operation.specs.declared.sort.Arithmetic.TheVariants.{Add, Subtract, Multiply, Divide, Remainder, And, Or, Xor}
use Rattle.wf_operation.specs.declared.sort.Shift.{Shift}
use Rattle.wf_operation.specs.declared.sort.Shift.TheVariants.{Left, Right, RightUnsigned}
use Rattle.wf_operation.specs.declared.sort.Narrow.{Narrow}
use Rattle.wf_operation.specs.declared.sort.Narrow.TheVariants.{Byte, Char, Short}
use Rattle.wf_operation.specs.declared.sort.Sort.{Sort}
use Rattle.wf_operation.specs.declared.sort.Sort.TheVariants as sort
use Rattle.wf_machine.specs.declared.ints.OpResult.{OpResult}
use Rattle.wf_machine.specs.declared.ints.OpResult.TheVariants as int
use Rattle.wf_machine.specs.declared.longs.LongResult.{LongResult}
use Rattle.wf_machine.specs.declared.longs.LongResult.TheVariants as long

-- ---- one operation

-- Two numbers combined; no number where one is divided by 0. A quotient is rounded toward 0, and a remainder has the
-- dividend's sign (JVMS 6.5, idiv and irem). The least number by -1 is the least number again.
abbrev pub combined : Width → Arithmetic → ℤ → ℤ → Option ℤ
combined w Add a b = Some (int_wrapping_add w a b)
combined w Subtract a b = Some (int_wrapping_sub w a b)
combined w Multiply a b = Some (int_wrapping_mul w a b)
combined w Divide a b = if int_eq b (pos 0) then None else Some (int_wrapping_div w a b)
combined w Remainder a b = if int_eq b (pos 0) then None else Some (int_rem a b)
combined w And a b = Some (int_bit_and w a b)
combined w Or a b = Some (int_bit_or w a b)
combined w Xor a b = Some (int_bit_xor w a b)

-- how far a number is shifted: the low five bits of the distance at an int, the low six at a long (JVMS 6.5, ishl, lshl)
abbrev pub distance : Width → ℤ → ℕ
distance w b = cast_unsigned w b % bits w

-- A number shifted. To the left it is multiplied, and wraps. To the right it is divided, rounded down; the unsigned shift
-- divides the number that its bits make without a sign (JVMS 6.5, ishl, ishr, iushr).
abbrev pub shifted : Width → Shift → ℤ → ℤ → ℤ
shifted w Left a b = int_shl w a (distance w b)
shifted w Right a b = int_shr a (distance w b)
shifted w RightUnsigned a b = cast_signed w (cast_unsigned w a / 2 ^ distance w b)

-- a number with the other sign (JVMS 6.5, ineg)
abbrev pub negative : Width → ℤ → ℤ
negative w a = int_wrapping_neg w a

-- an int cut to fewer bits (JVMS 6.5, i2b, i2c, i2s); a char has no sign
abbrev pub narrowed : Narrow → ℤ → ℤ
narrowed Byte a = int_wrap w8 a
narrowed Char a = pos (cast_unsigned w32 a % 2 ^ 16)
narrowed Short a = int_wrap w16 a

-- a long cut to an int (JVMS 6.5, l2i)
abbrev pub low_int : ℤ → ℤ
low_int a = int_wrap w32 a

-- 1, 0 or -1, as a number is greater than another, equal, or less (JVMS 6.5, lcmp)
abbrev pub order_of : ℤ → ℤ → ℤ
order_of a b = if int_lt b a then pos 1 else if int_eq a b then pos 0 else negsuc 0

-- ---- by the opcode

-- what an instruction on ints makes of two; a negation doesn't look at the second
abbrev pub int_value : Sort → ℤ → ℤ → Option ℤ
int_value (sort.IntArithmetic operation) a b = combined w32 operation a b
int_value (sort.IntShift shift) a b = Some (shifted w32 shift a b)
int_value sort.IntNegate a b = Some (negative w32 a)
int_value other a b = None

-- what an instruction on longs makes of two
abbrev pub long_value : Sort → ℤ → ℤ → Option ℤ
long_value (sort.LongArithmetic operation) a b = combined w64 operation a b
long_value (sort.LongShift shift) a b = Some (shifted w64 shift a b)
long_value sort.LongNegate a b = Some (negative w64 a)
long_value other a b = None

-- whether an instruction is arithmetic on ints
abbrev pub is_on_ints : Option Sort → Bool
is_on_ints (Some (sort.IntArithmetic operation)) = true
is_on_ints (Some (sort.IntShift shift)) = true
is_on_ints (Some sort.IntNegate) = true
is_on_ints other = false

-- whether it is arithmetic on longs
abbrev pub is_on_longs : Option Sort → Bool
is_on_longs (Some (sort.LongArithmetic operation)) = true
is_on_longs (Some (sort.LongShift shift)) = true
is_on_longs (Some sort.LongNegate) = true
is_on_longs other = false

-- the number of a result, where there is one
abbrev pub int_of : OpResult → Option ℤ
int_of (int.Value n) = Some n
int_of int.DivideByZero = None

abbrev pub long_of : LongResult → Option ℤ
long_of (long.Value n) = Some n
long_of long.DivideByZero = None

-- what an opcode makes of two numbers
abbrev pub int_op_value : Option Sort → ℤ → ℤ → Option ℤ
int_op_value None a b = None
int_op_value (Some s) a b = int_value s a b

abbrev pub long_op_value : Option Sort → ℤ → ℤ → Option ℤ
long_op_value None a b = None
long_op_value (Some s) a b = long_value s a b

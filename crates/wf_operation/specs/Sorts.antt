-- The sorts of instructions by their opcodes (JVMS 6.5, 7). Only opcodes of long forms that no method is refused for
-- have one.
use Rattle.std.specs.Prelude.{ℕ, ◌||◌, Option, Some, None, ◌==◌, nat_lt, if◌then◌else◌}
use Rattle.wf_base.specs.declared.cmp.Cmp.TheVariants as cmp
use Rattle.wf_base.specs.declared.kind.Kind.{Kind}
use Rattle.wf_base.specs.declared.kind.Kind.TheVariants as kind
use Rattle.wf_operation.specs.declared.sort.Sort.{Sort}
use Rattle.wf_operation.specs.declared.sort.Sort.TheVariants as sort
use Rattle.wf_operation.specs.declared.sort.Element.{Element}
use Rattle.wf_operation.specs.declared.sort.Element.TheVariants as element
use Rattle.wf_operation.specs.declared.sort.Shuffle.TheVariants as shuffle
use Rattle.wf_operation.specs.declared.sort.Arithmetic.TheVariants as arith
use Rattle.wf_operation.specs.declared.sort.Shift.TheVariants as shift
use Rattle.wf_operation.specs.declared.sort.Narrow.TheVariants as narrow
use Rattle.wf_operation.specs.declared.sort.Equality.TheVariants as equality
use Rattle.wf_operation.specs.declared.sort.Call.TheVariants as call

-- 00 to 35: constants and loads
abbrev pub constant_or_load : ℕ → Option Sort
constant_or_load op =
    if op == 0x00 then Some sort.Nothing
    else if op == 0x01 then Some sort.NullConstant
    else if op == 0x09 then Some sort.LongConstant
    else if op == 0x10 || op == 0x11 then Some sort.IntConstant
    else if op == 0x12 then Some sort.PoolConstant
    else if op == 0x14 then Some sort.PoolLong
    else if op == 0x15 then Some (sort.Load kind.Int)
    else if op == 0x16 then Some (sort.Load kind.Long)
    else if op == 0x19 then Some (sort.Load kind.Ref)
    else if op == 0x2E then Some (sort.ArrayLoad element.Int)
    else if op == 0x2F then Some (sort.ArrayLoad element.Long)
    else if op == 0x32 then Some (sort.ArrayLoad element.Ref)
    else if op == 0x33 then Some (sort.ArrayLoad element.Byte)
    else if op == 0x34 then Some (sort.ArrayLoad element.Char)
    else if op == 0x35 then Some (sort.ArrayLoad element.Short)
    else None

-- 36 to 5f: stores, and the stack
abbrev pub store_or_shuffle : ℕ → Option Sort
store_or_shuffle op =
    if op == 0x36 then Some (sort.Store kind.Int)
    else if op == 0x37 then Some (sort.Store kind.Long)
    else if op == 0x3A then Some (sort.Store kind.Ref)
    else if op == 0x4F then Some (sort.ArrayStore element.Int)
    else if op == 0x50 then Some (sort.ArrayStore element.Long)
    else if op == 0x53 then Some (sort.ArrayStore element.Ref)
    else if op == 0x54 then Some (sort.ArrayStore element.Byte)
    else if op == 0x55 then Some (sort.ArrayStore element.Char)
    else if op == 0x56 then Some (sort.ArrayStore element.Short)
    else if op == 0x57 then Some (sort.Shuffle shuffle.Pop)
    else if op == 0x58 then Some (sort.Shuffle shuffle.Pop2)
    else if op == 0x59 then Some (sort.Shuffle shuffle.Dup)
    else if op == 0x5A then Some (sort.Shuffle shuffle.DupX1)
    else if op == 0x5B then Some (sort.Shuffle shuffle.DupX2)
    else if op == 0x5C then Some (sort.Shuffle shuffle.Dup2)
    else if op == 0x5D then Some (sort.Shuffle shuffle.Dup2X1)
    else if op == 0x5E then Some (sort.Shuffle shuffle.Dup2X2)
    else if op == 0x5F then Some (sort.Shuffle shuffle.Swap)
    else None

-- 60 to 83, but shifts: arithmetic
abbrev pub arithmetic_sort : ℕ → Option Sort
arithmetic_sort op =
    if op == 0x60 then Some (sort.IntArithmetic arith.Add)
    else if op == 0x61 then Some (sort.LongArithmetic arith.Add)
    else if op == 0x64 then Some (sort.IntArithmetic arith.Subtract)
    else if op == 0x65 then Some (sort.LongArithmetic arith.Subtract)
    else if op == 0x68 then Some (sort.IntArithmetic arith.Multiply)
    else if op == 0x69 then Some (sort.LongArithmetic arith.Multiply)
    else if op == 0x6C then Some (sort.IntArithmetic arith.Divide)
    else if op == 0x6D then Some (sort.LongArithmetic arith.Divide)
    else if op == 0x70 then Some (sort.IntArithmetic arith.Remainder)
    else if op == 0x71 then Some (sort.LongArithmetic arith.Remainder)
    else if op == 0x74 then Some sort.IntNegate
    else if op == 0x75 then Some sort.LongNegate
    else if op == 0x7E then Some (sort.IntArithmetic arith.And)
    else if op == 0x7F then Some (sort.LongArithmetic arith.And)
    else if op == 0x80 then Some (sort.IntArithmetic arith.Or)
    else if op == 0x81 then Some (sort.LongArithmetic arith.Or)
    else if op == 0x82 then Some (sort.IntArithmetic arith.Xor)
    else if op == 0x83 then Some (sort.LongArithmetic arith.Xor)
    else None

-- 78 to 7d and 84 to 94: shifts, iinc, conversions and lcmp
abbrev pub shift_or_conversion : ℕ → Option Sort
shift_or_conversion op =
    if op == 0x78 then Some (sort.IntShift shift.Left)
    else if op == 0x79 then Some (sort.LongShift shift.Left)
    else if op == 0x7A then Some (sort.IntShift shift.Right)
    else if op == 0x7B then Some (sort.LongShift shift.Right)
    else if op == 0x7C then Some (sort.IntShift shift.RightUnsigned)
    else if op == 0x7D then Some (sort.LongShift shift.RightUnsigned)
    else if op == 0x84 then Some sort.Increment
    else if op == 0x85 then Some sort.IntToLong
    else if op == 0x88 then Some sort.LongToInt
    else if op == 0x91 then Some (sort.Narrow narrow.Byte)
    else if op == 0x92 then Some (sort.Narrow narrow.Char)
    else if op == 0x93 then Some (sort.Narrow narrow.Short)
    else if op == 0x94 then Some sort.CompareLongs
    else None

-- 99 to b1: jumps, switches and returns
abbrev pub control : ℕ → Option Sort
control op =
    if op == 0x99 then Some (sort.CompareToZero cmp.Eq)
    else if op == 0x9A then Some (sort.CompareToZero cmp.Ne)
    else if op == 0x9B then Some (sort.CompareToZero cmp.Lt)
    else if op == 0x9C then Some (sort.CompareToZero cmp.Ge)
    else if op == 0x9D then Some (sort.CompareToZero cmp.Gt)
    else if op == 0x9E then Some (sort.CompareToZero cmp.Le)
    else if op == 0x9F then Some (sort.CompareInts cmp.Eq)
    else if op == 0xA0 then Some (sort.CompareInts cmp.Ne)
    else if op == 0xA1 then Some (sort.CompareInts cmp.Lt)
    else if op == 0xA2 then Some (sort.CompareInts cmp.Ge)
    else if op == 0xA3 then Some (sort.CompareInts cmp.Gt)
    else if op == 0xA4 then Some (sort.CompareInts cmp.Le)
    else if op == 0xA5 then Some (sort.CompareRefs equality.Same)
    else if op == 0xA6 then Some (sort.CompareRefs equality.Different)
    else if op == 0xA7 then Some sort.Jump
    else if op == 0xAB then Some sort.Switch
    else if op == 0xAC then Some (sort.Return kind.Int)
    else if op == 0xAD then Some (sort.Return kind.Long)
    else if op == 0xB0 then Some (sort.Return kind.Ref)
    else if op == 0xB1 then Some sort.ReturnNothing
    else None

-- from b2: fields, methods and objects
abbrev pub object : ℕ → Option Sort
object op =
    if op == 0xB2 then Some sort.GetStatic
    else if op == 0xB3 then Some sort.PutStatic
    else if op == 0xB4 then Some sort.GetField
    else if op == 0xB5 then Some sort.PutField
    else if op == 0xB6 then Some (sort.Invoke call.Virtual)
    else if op == 0xB7 then Some (sort.Invoke call.Special)
    else if op == 0xB8 then Some (sort.Invoke call.Static)
    else if op == 0xB9 then Some (sort.Invoke call.Interface)
    else if op == 0xBB then Some sort.New
    else if op == 0xBC then Some sort.NewArray
    else if op == 0xBD then Some sort.NewRefArray
    else if op == 0xBE then Some sort.ArrayLength
    else if op == 0xBF then Some sort.Throw
    else if op == 0xC0 then Some sort.Cast
    else if op == 0xC1 then Some sort.InstanceOf
    else if op == 0xC2 then Some sort.EnterMonitor
    else if op == 0xC3 then Some sort.ExitMonitor
    else if op == 0xC5 then Some sort.NewManyArray
    else if op == 0xC6 then Some (sort.CompareToNull equality.Same)
    else if op == 0xC7 then Some (sort.CompareToNull equality.Different)
    else None

-- the sort of an opcode
abbrev pub sort_of : ℕ → Option Sort
sort_of op =
    if nat_lt op 0x36 then constant_or_load op
    else if nat_lt op 0x60 then store_or_shuffle op
    else if nat_lt op 0x78 then arithmetic_sort op
    else if nat_lt op 0x7E then shift_or_conversion op
    else if nat_lt op 0x84 then arithmetic_sort op
    else if nat_lt op 0x99 then shift_or_conversion op
    else if nat_lt op 0xB2 then control op
    else object op

-- the kind of the elements of an array (JVMS 2.11.1)
abbrev pub kind_of_element : Element → Kind
kind_of_element element.Int = kind.Int
kind_of_element element.Long = kind.Long
kind_of_element element.Ref = kind.Ref
kind_of_element element.Byte = kind.Int
kind_of_element element.Char = kind.Int
kind_of_element element.Short = kind.Int

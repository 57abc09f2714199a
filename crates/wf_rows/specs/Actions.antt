-- What an instruction does that names nothing in the constant pool but a long (JVMS 6.5). What any other names is resolved
-- first.
use Rattle.std.specs.Prelude.{ℤ, Option, Some, None}
use Rattle.wf_operation.specs.declared.sort.Arithmetic.{Arithmetic}
use Rattle.wf_operation.specs.declared.sort.Arithmetic.TheVariants as arithmetic
use Rattle.wf_operation.specs.declared.sort.Element.{Element}
use Rattle.wf_operation.specs.declared.sort.Element.TheVariants as element
use Rattle.wf_operation.specs.declared.sort.Sort.{Sort}
use Rattle.wf_operation.specs.declared.sort.Sort.TheVariants as sort
use Rattle.wf_rows.specs.declared.action.Action.{Action}
use Rattle.wf_rows.specs.declared.action.Action.TheVariants.{Moves, Computes, Array, Returns, Throws, Monitors}
use Rattle.wf_rows.specs.declared.action.ArrayUse.{ArrayUse}
use Rattle.wf_rows.specs.declared.action.ArrayUse.TheVariants as use_of
use Rattle.wf_rows.specs.declared.action.Computation.{Computation}
use Rattle.wf_rows.specs.declared.action.Computation.TheVariants.{Int, Null, AnyInt, AnyLong, IntQuotient, LongQuotient}

-- two numbers: a quotient or a remainder may fail (JVMS 6.5, idiv)
abbrev pub arithmetic_of : Arithmetic → Computation → Computation → Computation
arithmetic_of arithmetic.Divide any quotient = quotient
arithmetic_of arithmetic.Remainder any quotient = quotient
arithmetic_of arithmetic.Add any quotient = any
arithmetic_of arithmetic.Subtract any quotient = any
arithmetic_of arithmetic.Multiply any quotient = any
arithmetic_of arithmetic.And any quotient = any
arithmetic_of arithmetic.Or any quotient = any
arithmetic_of arithmetic.Xor any quotient = any

abbrev pub load_of : Element → ArrayUse
load_of element.Int = use_of.LoadInt
load_of element.Long = use_of.LoadLong
load_of element.Ref = use_of.LoadRef
load_of element.Byte = use_of.LoadInt
load_of element.Char = use_of.LoadInt
load_of element.Short = use_of.LoadInt

abbrev pub store_of : Element → ArrayUse
store_of element.Ref = use_of.StoreRef
store_of element.Int = use_of.StoreNumber
store_of element.Long = use_of.StoreNumber
store_of element.Byte = use_of.StoreNumber
store_of element.Char = use_of.StoreNumber
store_of element.Short = use_of.StoreNumber

-- constants, arithmetic and conversions; `a` is the number in the instruction
abbrev pub computation_of : Sort → ℤ → Option Computation
computation_of sort.NullConstant a = Some Null
computation_of sort.IntConstant a = Some (Int a)
computation_of sort.LongConstant a = Some AnyLong
computation_of sort.PoolLong a = Some AnyLong
computation_of (sort.IntArithmetic op) a = Some (arithmetic_of op AnyInt IntQuotient)
computation_of (sort.LongArithmetic op) a = Some (arithmetic_of op AnyLong LongQuotient)
computation_of (sort.IntShift s) a = Some AnyInt
computation_of (sort.LongShift s) a = Some AnyLong
computation_of sort.IntNegate a = Some AnyInt
computation_of sort.LongNegate a = Some AnyLong
computation_of sort.Increment a = Some AnyInt
computation_of sort.IntToLong a = Some AnyLong
computation_of sort.LongToInt a = Some AnyInt
computation_of (sort.Narrow n) a = Some AnyInt
computation_of sort.CompareLongs a = Some AnyInt
computation_of other a = None

-- moves, branches, arrays that are there, returns, and objects of which the pool says nothing
abbrev pub control_action : Sort → Option Action
control_action sort.Nothing = Some Moves
control_action (sort.Load k) = Some Moves
control_action (sort.Store k) = Some Moves
control_action (sort.Shuffle s) = Some Moves
control_action (sort.CompareToZero c) = Some Moves
control_action (sort.CompareInts c) = Some Moves
control_action (sort.CompareRefs e) = Some Moves
control_action (sort.CompareToNull e) = Some Moves
control_action sort.Jump = Some Moves
control_action sort.Switch = Some Moves
control_action (sort.ArrayLoad e) = Some (Array (load_of e))
control_action (sort.ArrayStore e) = Some (Array (store_of e))
control_action sort.ArrayLength = Some (Array use_of.Length)
control_action (sort.Return k) = Some (Returns (Some k))
control_action sort.ReturnNothing = Some (Returns None)
control_action sort.Throw = Some Throws
control_action sort.EnterMonitor = Some Monitors
control_action sort.ExitMonitor = Some Monitors
control_action other = None

abbrev pub computing_or : Option Computation → Option Action → Option Action
computing_or (Some c) other = Some (Computes c)
computing_or None other = other

-- what the instruction does, where it names nothing that has to be resolved
abbrev pub plain_action : Sort → ℤ → Option Action
plain_action s a = computing_or (computation_of s a) (control_action s)

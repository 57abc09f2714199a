-- What each instruction leads to, the table as a whole (JVMS 6.5).
use Rattle.std.specs.Prelude.{◌≡◌, ◌∷◌, map, Some, None, Result, Ok, Err}
use Rattle.wf_base.specs.declared.ids.MethodId.{MethodId}
use Rattle.wf_base.specs.declared.kind.Kind.{Kind}
use Rattle.wf_names.specs.declared.world.LinkError.{LinkError}
use Rattle.wf_rows.specs.Errors.{throwable_of}
use Rattle.wf_rows.specs.declared.action.Action.{Action}
use Rattle.wf_rows.specs.declared.action.Action.TheVariants as action
use Rattle.wf_rows.specs.declared.action.ArrayUse.{ArrayUse}
use Rattle.wf_rows.specs.declared.action.Computation.{Computation}
use Rattle.wf_rows.specs.declared.action.FieldUse.{FieldUse}
use Rattle.wf_rows.specs.declared.action.Literal.{Literal}
use Rattle.wf_rows.specs.declared.action.Making.{Making}
use Rattle.wf_rows.specs.declared.action.SelectedCall.{SelectedCall}
use Rattle.wf_rows.specs.declared.action.StaticCall.{StaticCall}
use Rattle.wf_rows.specs.declared.action.TypeTest.{TypeTest}
use Rattle.wf_rows.specs.declared.throwable.Throwable.{Throwable}
use Rattle.wf_rows.specs.declared.throwable.Throwable.TheVariants as throwable
use Rattle.wf_machine.specs.Values.{Object, Null, Ref}
use Rattle.wf_machine.specs.At.{At, Outcome, Enters, Returns, Throws, ThrowsObject, operand, value, goes_on}
use Rattle.wf_machine.specs.Computing.{Computes, Moves}
use Rattle.wf_machine.specs.Fields.{UsesField, Waits, IsReady}
use Rattle.wf_machine.specs.Arrays.{UsesArray}
use Rattle.wf_machine.specs.Objects.{MakesObject, LoadsLiteral, TestsType}

-- invokestatic: the class that declares the method is initialized first (JVMS 5.5)
pub data CallsStatic (k : At) : Result StaticCall LinkError → Outcome → Type 0 where
  unlinked : (e : LinkError) → CallsStatic k (Err e) (Throws (throwable_of e))
  waits : (c : StaticCall) (out : Outcome) → Waits k c.class out → CallsStatic k (Ok c) out
  calls : (c : StaticCall) → IsReady k c.class → CallsStatic k (Ok c) (Enters c.method (map (operand k) c.arguments))

-- invokevirtual, invokespecial, invokeinterface: the method is resolved first, then null is looked for, and then the
-- receiver's type selects a method, or the call throws
pub data Calls (k : At) : Result SelectedCall LinkError → Outcome → Type 0 where
  unlinked : (e : LinkError) → Calls k (Err e) (Throws (throwable_of e))
  of_null : (c : SelectedCall) → operand k c.receiver ≡ Null → Calls k (Ok c) (Throws throwable.NullPointer)
  none : (c : SelectedCall) (o : Object) (e : Throwable) → operand k c.receiver ≡ Ref o → k.world.selects k.method k.pc o.type ≡ Err e → Calls k (Ok c) (Throws e)
  calls : (c : SelectedCall) (o : Object) (m : MethodId) → operand k c.receiver ≡ Ref o → k.world.selects k.method k.pc o.type ≡ Ok m → Calls k (Ok c) (Enters m (Ref o ∷ map (operand k) c.arguments))

-- What an instruction leads to, by what it does with what it names. Monitors are not waited for: there is one thread, and
-- its exits fit its enters (own rule; JVMS 6.5, monitorenter).
pub data Does (k : At) : Action → Outcome → Type 0 where
  moves : (out : Outcome) → Moves k k.instruction.next out → Does k action.Moves out
  computes : (c : Computation) (out : Outcome) → Computes k k.instruction.sort out → Does k (action.Computes c) out
  literal : (l : Result Literal LinkError) (out : Outcome) → LoadsLiteral k l out → Does k (action.Literal l) out
  field : (f : FieldUse) (out : Outcome) → UsesField k f out → Does k (action.Field f) out
  array : (a : ArrayUse) (out : Outcome) → UsesArray k k.instruction.sort out → Does k (action.Array a) out
  makes : (m : Making) (out : Outcome) → MakesObject k m out → Does k (action.Makes m) out
  tests : (t : TypeTest) (out : Outcome) → TestsType k t out → Does k (action.Tests t) out
  calls_static : (c : Result StaticCall LinkError) (out : Outcome) → CallsStatic k c out → Does k (action.CallsStatic c) out
  calls : (c : Result SelectedCall LinkError) (out : Outcome) → Calls k c out → Does k (action.Calls c) out
  returns : Does k (action.Returns None) (Returns None)
  returns_value : (kind : Kind) → Does k (action.Returns (Some kind)) (Returns (Some (value k kind)))
  throws : (o : Object) → operand k 0 ≡ Ref o → Does k action.Throws (ThrowsObject o)
  throws_null : operand k 0 ≡ Null → Does k action.Throws (Throws throwable.NullPointer)
  monitors : (o : Object) → operand k 0 ≡ Ref o → Does k action.Monitors (goes_on k k.memory)
  monitors_null : operand k 0 ≡ Null → Does k action.Monitors (Throws throwable.NullPointer)

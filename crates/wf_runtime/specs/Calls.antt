-- Which method a receiver selects at a call (JVMS 6.5, invokevirtual, invokeinterface, invokespecial).
use Rattle.std.specs.Prelude.{◌≡◌, ℕ, Bool, true, false, Some, Result, Ok, Err, slice_get}
use Rattle.wf_base.specs.declared.ids.MethodId.{MethodId}
use Rattle.wf_base.specs.declared.ids.TypeId.{TypeId}
use Rattle.wf_data.specs.declared.instr.Placed.{Placed}
use Rattle.wf_names.specs.declared.member.MemberName.{MemberName}
use Rattle.wf_subtype.specs.Subtypes.{AllTypes, IsSubtype, IsTargetFound}
use Rattle.wf_resolve.specs.declared.instructions.Calling.{Calling}
use Rattle.wf_resolve.specs.declared.instructions.Calling.TheVariants as calling
use Rattle.wf_select.specs.declared.outcome.Invoke.{Invoke}
use Rattle.wf_select.specs.declared.outcome.Invoke.TheVariants.{Virtual, Interface}
use Rattle.wf_select.specs.declared.outcome.Selected.{Selected}
use Rattle.wf_select.specs.declared.outcome.Selected.TheVariants.{Method, AbstractMethod, Incompatible}
use Rattle.wf_select.specs.OfTypes.{SelectsOfType}
use Rattle.wf_select.specs.Selection.{Special}
use Rattle.wf_linking.specs.declared.linked.Linked.TheVariants as linked
use Rattle.wf_linking.specs.declared.linked.LinkedMethod.{LinkedMethod}
use Rattle.wf_linking.specs.Linking.{Links}
use Rattle.wf_linking.specs.Symbolic.{MethodName, symbolic_of}
use Rattle.wf_rows.specs.declared.throwable.Throwable.{Throwable}
use Rattle.wf_rows.specs.declared.throwable.Throwable.TheVariants as throwable
use Rattle.wf_runtime.specs.Bodies.{Body, IsBodyOf}
use Rattle.wf_runtime.specs.Summaries.{Run}

-- what runs, or what is thrown
abbrev pub selected : Selected → Result MethodId Throwable
selected (Method m) = Ok m
selected AbstractMethod = Err throwable.AbstractMethod
selected Incompatible = Err throwable.IncompatibleClassChange

-- invokeinterface names a method of an interface, and invokevirtual one of a class
abbrev pub invoke_of : Bool → Invoke
invoke_of false = Virtual
invoke_of true = Interface

-- what is selected for an object of a type, in a method of the class with this number
pub data SelectsBy (types : AllTypes) (current : ℕ) (of_interface : Bool) (l : LinkedMethod) (t : TypeId) : Calling → Selected → Type 0 where
  by_type : (s : Selected) → SelectsOfType types t.0 l.method.0 (invoke_of of_interface) s → SelectsBy types current of_interface l t calling.Object s
  special : (s : Selected) → Special types.classes current l.named.0 l.method.0 s → SelectsBy types current of_interface l t calling.Special s

-- a call whose method is resolved, and the class or array that it names
pub record IsCallAt (p : Run) (m : MethodId) (pc : ℕ) (how : Calling) (of_interface : Bool) (l : LinkedMethod) (u : ℕ) : Type 0 where
  pub body : Body
  pub is : IsBodyOf p m body
  pub place : ℕ
  pub at : Placed
  pub there : slice_get body.placed place ≡ Some at
  pub here : at.pc ≡ pc
  pub member : MemberName
  pub names : symbolic_of body.class.pool at.instr ≡ Some (MethodName how of_interface member)
  pub resolved : Links p.types.classes (MethodName how of_interface member) (Ok (linked.Method l))
  pub named : IsTargetFound p.types member.class (Some u)

-- What a receiver's type selects at a call: a type that isn't under the class that the call names is refused as
-- IncompatibleClassChange (own rule; no verified code does that).
pub data IsSelectedAt (p : Run) (m : MethodId) (pc : ℕ) (t : TypeId) : Result MethodId Throwable → Type 0 where
  under : (how : Calling) (of_interface : Bool) (l : LinkedMethod) (u : ℕ) (s : Selected) (call : IsCallAt p m pc how of_interface l u) → IsSubtype p.types t.0 u → SelectsBy p.types call.body.number of_interface l t how s → IsSelectedAt p m pc t (selected s)
  elsewhere : (how : Calling) (of_interface : Bool) (l : LinkedMethod) (u : ℕ) → IsCallAt p m pc how of_interface l u → (IsSubtype p.types t.0 u → ⊥) → IsSelectedAt p m pc t (Err throwable.IncompatibleClassChange)

-- some call is at a place, whose method is selected by the receiver
pub record IsSelecting (p : Run) (m : MethodId) (pc : ℕ) : Type 0 where
  pub how : Calling
  pub of_interface : Bool
  pub linked_to : LinkedMethod
  pub target : ℕ
  pub call : IsCallAt p m pc how of_interface linked_to target
  pub selects : how ≡ calling.Static → ⊥

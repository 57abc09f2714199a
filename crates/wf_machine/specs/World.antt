-- What the machine looks up of a program: the code of its methods, what instructions name, types, classes and the summary.
use Rattle.std.specs.Prelude.{◌≡◌, ℕ, ℤ, Bool, false, List, replicate, Option, None, Result}
use Rattle.wf_base.specs.declared.ids.ClassId.{ClassId}
use Rattle.wf_base.specs.declared.ids.FieldId.{FieldId}
use Rattle.wf_base.specs.declared.ids.MethodId.{MethodId}
use Rattle.wf_base.specs.declared.ids.TargetId.{TargetId}
use Rattle.wf_base.specs.declared.ids.TypeId.{TypeId}
use Rattle.wf_operation.specs.declared.sort.Element.{Element}
use Rattle.wf_operation.specs.declared.sort.Sort.{Sort}
use Rattle.wf_operation.specs.declared.effect.Effect.{Effect}
use Rattle.wf_operation.specs.declared.next.Next.{Next}
use Rattle.wf_rows.specs.declared.action.Action.{Action}
use Rattle.wf_rows.specs.declared.action.Literal.{Literal}
use Rattle.wf_rows.specs.declared.joins.HandlerEntry.{HandlerEntry}
use Rattle.wf_rows.specs.declared.summaries.SummaryEffect.{SummaryEffect}
use Rattle.wf_rows.specs.declared.throwable.Throwable.{Throwable}
use Rattle.wf_machine.specs.Values.{Value}
use Rattle.wf_machine.specs.Memory.{Memory, next_object, with_object}

-- An instruction at its place.
pub record Instruction : Type 0 where
  pub sort : Sort
  pub effect : Effect
  pub next : Next
  -- what it does with what it names
  pub action : Action
  -- the number that a constant gives, or that iinc adds
  pub number : ℤ
  -- the place of the instruction behind it
  pub behind : ℕ

-- How a frame of a method begins.
pub data Entry : Type 0 where
  -- with its code, and so many locals
  Code : (locals : ℕ) → Entry
  -- as a method that is native or that the summary replaces
  Other : Entry
  -- not at all: the method is abstract
  NoBody : Entry

-- What a static field holds as its class gets in progress (JVMS 4.7.2, 5.5 step 6).
pub data Start : Type 0 where
  Holds : (value : Value) → Start
  -- a literal, of a string constant
  HoldsLiteral : (literal : Literal) → Start

pub record StaticField : Type 0 where
  pub field : FieldId
  pub start : Start

pub record World : Type 0 where
  -- the instruction at a place of a method's code; None where there is none, and in a method that is refused
  pub code : MethodId → ℕ → Option Instruction
  pub entry : MethodId → Entry
  -- the entries of the exception table that cover a place, in the order of the table (JVMS 2.10)
  pub handlers : MethodId → ℕ → List HandlerEntry
  -- the method that a receiver's type selects at a call, or what the call throws: a type that isn't under the class that
  -- the call names is refused as IncompatibleClassChange (own rule; JVMS 6.5, invokevirtual)
  pub selects : MethodId → ℕ → TypeId → Result MethodId Throwable
  -- whether objects of a type are instances of a class or an array (JVMS 6.5, instanceof)
  pub is_under : TypeId → TargetId → Bool
  -- whether a type is an array, and whether its elements are as an instruction takes them
  pub is_array : TypeId → Bool
  pub has_elements : TypeId → Element → Bool
  -- whether an object of the second type may be an element of an array of the first (JVMS 6.5, aastore)
  pub may_hold : TypeId → TypeId → Bool
  -- what a field of a new object holds; None where objects of the type have no such field
  pub first_value : TypeId → FieldId → Option Value
  -- what an element of a new array holds
  pub first_element : TypeId → Value
  pub is_static : FieldId → Bool
  -- the initializer of a class, its static fields, and the classes that are initialized before it
  pub initializer : ClassId → Option MethodId
  pub static_fields : ClassId → List StaticField
  pub before : ClassId → List ClassId
  -- whether a type is under java/lang/Error
  pub is_error : TypeId → Bool
  -- the type of what the machine throws, where it is a loadable class that isn't abstract
  pub thrown : Throwable → Option TypeId
  -- what the summary says that a method does; None where it says nothing of it
  pub summary : MethodId → Option (List SummaryEffect)

-- a new object of a class, or a new array of so many elements (JVMS 2.3, 2.4; 6.5, new, newarray)
abbrev pub made : World → Memory → TypeId → ℕ → Memory
made w m t count = with_object m (next_object m t) (w.first_value t) (replicate count (w.first_element t))

-- a new array with these elements
abbrev pub made_with : World → Memory → TypeId → List Value → Memory
made_with w m t values = with_object m (next_object m t) (λ f. None) values

-- an object of a type that is no array has no elements
abbrev pub CanCount : World → TypeId → ℕ → Type 0
CanCount w t count = w.is_array t ≡ false → count ≡ 0

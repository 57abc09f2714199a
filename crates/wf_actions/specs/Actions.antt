-- What an instruction does in the analysis, by what it resolves to (JVMS 6.5), and by what is said of literals and of call
-- sites (this project's own).
use Rattle.std.specs.Prelude.{◌≡◌, ℕ, ℤ, suc, zero, List, [], ◌∷◌, length, Option, Some, None, Result, Ok, Err, option_and_then, option_map, slice_get}
use Rattle.wf_base.specs.declared.ids.ClassId.{ClassId}
use Rattle.wf_base.specs.declared.ids.MethodId.{MethodId}
use Rattle.wf_base.specs.declared.ids.TargetId.{TargetId}
use Rattle.wf_base.specs.declared.ids.TypeId.{TypeId}
use Rattle.wf_base.specs.declared.kind.Kind.{Kind}
use Rattle.wf_data.specs.declared.class_info.PoolEntry.{PoolEntry}
use Rattle.wf_data.specs.declared.class_info.PoolEntry.TheVariants as entry
use Rattle.wf_data.specs.declared.instr.Instr.{Instr}
use Rattle.wf_names.specs.declared.world.LinkError.{LinkError}
use Rattle.wf_opcode.specs.Instructions.{place_of}
use Rattle.wf_operation.specs.declared.operation.Operation.{Operation}
use Rattle.wf_operation.specs.declared.slot.SlotKind.{SlotKind}
use Rattle.wf_operation.specs.declared.sort.Call.{Call}
use Rattle.wf_operation.specs.declared.sort.Call.TheVariants.{Virtual, Special, Static, Interface}
use Rattle.wf_operation.specs.declared.sort.Sort.{Sort}
use Rattle.wf_operation.specs.declared.sort.Sort.TheVariants as sort
use Rattle.wf_subtype.specs.Subtypes.{AllTypes}
use Rattle.wf_subtype.specs.Universe.{letter_of, array_name, operand_name}
use Rattle.wf_linking.specs.declared.linked.Linked.{Linked}
use Rattle.wf_linking.specs.declared.linked.Linked.TheVariants as linked
use Rattle.wf_linking.specs.declared.linked.LinkedField.{LinkedField}
use Rattle.wf_linking.specs.Linking.{Resolves}
use Rattle.wf_binding.specs.declared.numbers.LiteralNumbers.{LiteralNumbers}
use Rattle.wf_rows.specs.declared.action.Action.{Action}
use Rattle.wf_rows.specs.declared.action.Action.TheVariants.{Computes, Literal, Field, Makes, Tests, CallsStatic, Calls}
use Rattle.wf_rows.specs.declared.action.Computation.TheVariants.{Int}
use Rattle.wf_rows.specs.declared.action.FieldUse.TheVariants.{GetStatic, PutStatic, Get, Put}
use Rattle.wf_rows.specs.declared.action.LiteralField.{LiteralField}
use Rattle.wf_rows.specs.declared.action.Making.TheVariants.{Object, Array, ManyArray}
use Rattle.wf_rows.specs.declared.action.StaticField.{StaticField}
use Rattle.wf_rows.specs.declared.action.TypeTest.{TypeTest}
use Rattle.wf_rows.specs.declared.action.TypeTest.TheVariants.{Cast, InstanceOf}
use Rattle.wf_rows.specs.Actions.{plain_action}
use Rattle.wf_actions.specs.Literals.{AreLiteralFields}
use Rattle.wf_actions.specs.Named.{type_named, type_of_class, with_components, IsTargetIfNamed}
use Rattle.wf_actions.specs.Operands.{taken_slots, depths_of, top_kind}
use Rattle.wf_actions.specs.declared.instruction.Instruction.{Instruction}

-- what of a program the actions of its instructions are made from
pub record Program : Type 0 where
  pub types : AllTypes
  -- what the summary says of literals
  pub literals : List LiteralNumbers

-- an instruction of a class with this pool, what it does with slots, and the number and the candidates of its site where
-- it is a call site
pub record At : Type 0 where
  pub pool : List PoolEntry
  pub instr : Instr
  pub operation : Operation
  pub site : ℕ
  pub candidates : List MethodId

abbrev pub at_of : Instruction → At
at_of i = record { pool = i.pool.now; instr = i.instr.now; operation = i.operation.now; site = i.site; candidates = i.candidates.now }

-- the slots that it takes
abbrev pub slots_at : At → List SlotKind
slots_at x = taken_slots x.operation.effect

-- ---- fields

abbrev pub static_field : LinkedField → StaticField
static_field f = record { class = f.class; field = f.field }

abbrev pub get_static : Result Linked LinkError → Option Action
get_static (Err e) = Some (Field (GetStatic (Err e)))
get_static (Ok (linked.Field f)) = Some (Field (GetStatic (Ok (static_field f))))
get_static (Ok (linked.Object c)) = None
get_static (Ok (linked.Type c)) = None
get_static (Ok (linked.Method m)) = None

abbrev pub put_static : Result Linked LinkError → Kind → Option Action
put_static (Err e) kind = Some (Field (PutStatic (Err e) kind))
put_static (Ok (linked.Field f)) kind = Some (Field (PutStatic (Ok (static_field f)) kind))
put_static (Ok (linked.Object c)) kind = None
put_static (Ok (linked.Type c)) kind = None
put_static (Ok (linked.Method m)) kind = None

abbrev pub get : Result Linked LinkError → Option Action
get (Err e) = Some (Field (Get (Err e)))
get (Ok (linked.Field f)) = Some (Field (Get (Ok f.field)))
get (Ok (linked.Object c)) = None
get (Ok (linked.Type c)) = None
get (Ok (linked.Method m)) = None

abbrev pub put : Result Linked LinkError → Kind → Option Action
put (Err e) kind = Some (Field (Put (Err e) kind))
put (Ok (linked.Field f)) kind = Some (Field (Put (Ok f.field) kind))
put (Ok (linked.Object c)) kind = None
put (Ok (linked.Type c)) kind = None
put (Ok (linked.Method m)) kind = None

-- ---- objects

abbrev pub new_object : AllTypes → Result Linked LinkError → Option Action
new_object types (Err e) = Some (Makes (Object (Err e)))
new_object types (Ok (linked.Object c)) = option_map (λ t. Makes (Object (Ok (record { class = c; made = t })))) (type_of_class types c)
new_object types (Ok (linked.Type c)) = None
new_object types (Ok (linked.Field f)) = None
new_object types (Ok (linked.Method m)) = None

-- an array of this type is made
abbrev pub makes_array : TypeId → Action
makes_array t = Makes (Array (Ok t))

-- newarray, by the code of a primitive type
abbrev pub new_primitives : AllTypes → Instr → Option Action
new_primitives types i = option_and_then (λ code. option_map makes_array (type_named types (91 ∷ letter_of code ∷ []))) (place_of i.a)

-- anewarray of a class or an array of this name
abbrev pub new_references : AllTypes → Option (List ℕ) → Result Linked LinkError → Option Action
new_references types name (Err e) = Some (Makes (Array (Err e)))
new_references types name (Ok (linked.Type c)) = option_and_then (λ n. option_map makes_array (type_named types (array_name n))) name
new_references types name (Ok (linked.Object c)) = None
new_references types name (Ok (linked.Field f)) = None
new_references types name (Ok (linked.Method m)) = None

-- arrays of a type of this name and of some of its component types
abbrev pub many_arrays : AllTypes → List ℕ → ℕ → Option Action
many_arrays types name zero = None
many_arrays types name (suc n) = option_and_then (λ t. option_map (λ ts. Makes (ManyArray (Ok (record { array = t; components = ts })))) (with_components types [] n name)) (type_named types name)

-- multianewarray of an array of this name, with so many lengths
abbrev pub new_many : AllTypes → Option (List ℕ) → Option ℕ → Result Linked LinkError → Option Action
new_many types name lengths (Err e) = Some (Makes (ManyArray (Err e)))
new_many types name lengths (Ok (linked.Type c)) = option_and_then (λ n. option_and_then (many_arrays types n) lengths) name
new_many types name lengths (Ok (linked.Object c)) = None
new_many types name lengths (Ok (linked.Field f)) = None
new_many types name lengths (Ok (linked.Method m)) = None

-- ---- calls

abbrev pub call_static : List SlotKind → Result Linked LinkError → Option Action
call_static slots (Err e) = Some (CallsStatic (Err e))
call_static slots (Ok (linked.Method m)) = Some (CallsStatic (Ok (record { class = m.class; method = m.method; arguments = depths_of slots })))
call_static slots (Ok (linked.Object c)) = None
call_static slots (Ok (linked.Type c)) = None
call_static slots (Ok (linked.Field f)) = None

-- the receiver stands below the arguments, in one slot
abbrev pub selected_call : ℕ → List MethodId → List SlotKind → Option Action
selected_call site candidates [] = None
selected_call site candidates (slot ∷ rest) = Some (Calls (Ok (record { site = site; candidates = candidates; receiver = length rest; arguments = depths_of rest })))

abbrev pub call_selected : At → Result Linked LinkError → Option Action
call_selected x (Err e) = Some (Calls (Err e))
call_selected x (Ok (linked.Method m)) = selected_call x.site x.candidates (slots_at x)
call_selected x (Ok (linked.Object c)) = None
call_selected x (Ok (linked.Type c)) = None
call_selected x (Ok (linked.Field f)) = None

abbrev pub call : At → Call → Result Linked LinkError → Option Action
call x Static r = call_static (slots_at x) r
call x Virtual r = call_selected x r
call x Special r = call_selected x r
call x Interface r = call_selected x r

-- ---- what is resolved

-- What it does by its sort, where what it names resolves so: to the error with which it fails, in place of what it would be.
abbrev pub linked_action : AllTypes → At → Sort → Result Linked LinkError → Option Action
linked_action types x sort.GetStatic r = get_static r
linked_action types x sort.PutStatic r = option_and_then (put_static r) (top_kind (slots_at x))
linked_action types x sort.GetField r = get r
linked_action types x sort.PutField r = option_and_then (put r) (top_kind (slots_at x))
linked_action types x sort.New r = new_object types r
linked_action types x sort.NewRefArray r = new_references types (operand_name x.pool x.instr) r
linked_action types x sort.NewManyArray r = new_many types (operand_name x.pool x.instr) (place_of x.instr.b) r
linked_action types x (sort.Invoke how) r = call x how r
linked_action types x other r = None

abbrev pub ResolvesTo : AllTypes → At → Option (Result Linked LinkError) → Type 0
ResolvesTo types x r = Resolves types.classes x.pool x.instr r

pub record IsLinkedAction (types : AllTypes) (x : At) (s : Sort) (a : Option Action) : Type 0 where
  pub linked : Option (Result Linked LinkError)
  pub resolves : ResolvesTo types x linked
  pub is : a ≡ option_and_then (linked_action types x s) linked

-- ---- literals

-- the int constant at a place
abbrev pub int_of : PoolEntry → Option ℤ
int_of (entry.Integer n) = Some n
int_of other = None

abbrev pub int_at : At → Option ℤ
int_at x = option_and_then (λ place. option_and_then int_of (slice_get x.pool place)) (place_of x.instr.a)

-- a literal of class c, with what the summary says of its fields
pub record IsLiteralOf (p : Program) (c : ClassId) (a : Option Action) : Type 0 where
  pub fields : List LiteralField
  pub are : AreLiteralFields p.types.classes c.0 p.literals (length p.literals) fields
  pub is : a ≡ option_map (λ t. Literal (Ok (record { class = t; fields = fields }))) (type_of_class p.types c)

abbrev pub IsLiteralBy : Program → Option (Result Linked LinkError) → Option Action → Type 0
IsLiteralBy p (Some (Ok (linked.Object c))) a = IsLiteralOf p c a
IsLiteralBy p (Some (Ok (linked.Type c))) a = a ≡ None
IsLiteralBy p (Some (Ok (linked.Field f))) a = a ≡ None
IsLiteralBy p (Some (Ok (linked.Method m))) a = a ≡ None
IsLiteralBy p (Some (Err e)) a = a ≡ Some (Literal (Err e))
IsLiteralBy p None a = a ≡ None

pub record IsLiteral (p : Program) (x : At) (a : Option Action) : Type 0 where
  pub linked : Option (Result Linked LinkError)
  pub resolves : ResolvesTo p.types x linked
  pub is : IsLiteralBy p linked a

-- an int constant is given
abbrev pub int_action : At → Option Action
int_action x = option_map (λ n. Computes (Int n)) (int_at x)

-- ldc
pub data IsConstant (p : Program) (x : At) : Option Action → Type 0 where
  int : (a : Action) → int_action x ≡ Some a → IsConstant p x (Some a)
  literal : (a : Option Action) → int_action x ≡ None → IsLiteral p x a → IsConstant p x a

-- ---- tests of types

pub record IsFoundTarget (types : AllTypes) (x : At) (t : Option (Result TargetId LinkError)) : Type 0 where
  pub found : Option TargetId
  pub target : IsTargetIfNamed types (operand_name x.pool x.instr) found
  pub is : t ≡ option_map Ok found

abbrev pub IsTestedBy : AllTypes → At → Option (Result Linked LinkError) → Option (Result TargetId LinkError) → Type 0
IsTestedBy types x (Some (Ok (linked.Type c))) t = IsFoundTarget types x t
IsTestedBy types x (Some (Ok (linked.Object c))) t = t ≡ None
IsTestedBy types x (Some (Ok (linked.Field f))) t = t ≡ None
IsTestedBy types x (Some (Ok (linked.Method m))) t = t ≡ None
IsTestedBy types x (Some (Err e)) t = t ≡ Some (Err e)
IsTestedBy types x None t = t ≡ None

-- what checkcast and instanceof test for
pub record IsTested (types : AllTypes) (x : At) (t : Option (Result TargetId LinkError)) : Type 0 where
  pub linked : Option (Result Linked LinkError)
  pub resolves : ResolvesTo types x linked
  pub is : IsTestedBy types x linked t

pub record IsTest (types : AllTypes) (x : At) (test : Result TargetId LinkError → TypeTest) (a : Option Action) : Type 0 where
  pub tested : Option (Result TargetId LinkError)
  pub found : IsTested types x tested
  pub is : a ≡ option_map (λ t. Tests (test t)) tested

-- ---- all of them

-- what an instruction does that names something, by its sort
abbrev pub IsNamedAction : Program → At → Sort → Option Action → Type 0
IsNamedAction p x sort.PoolConstant a = IsConstant p x a
IsNamedAction p x sort.NewArray a = a ≡ new_primitives p.types x.instr
IsNamedAction p x sort.Cast a = IsTest p.types x Cast a
IsNamedAction p x sort.InstanceOf a = IsTest p.types x InstanceOf a
IsNamedAction p x other a = IsLinkedAction p.types x other a

-- What an instruction does. None where an operand is wrong, or names a type that isn't one of the run's.
pub data IsAction (p : Program) (x : At) : Option Action → Type 0 where
  plain : (a : Action) → plain_action x.operation.sort x.instr.a ≡ Some a → IsAction p x (Some a)
  named : (a : Option Action) → plain_action x.operation.sort x.instr.a ≡ None → IsNamedAction p x x.operation.sort a → IsAction p x a

-- A call whose method is selected has the candidates of its site.
use Rattle.std.proofs.Common.{◌≡◌, ℕ, ℤ, zero, suc, List, [], ◌∷◌, Option, Some, None, Result, Ok, Err, refl, sym, subst}
use Rattle.std.specs.Prelude.{option_and_then, option_map}
use Rattle.wf_base.specs.declared.ids.MethodId.{MethodId}
use Rattle.wf_base.specs.declared.ids.TargetId.{TargetId}
use Rattle.wf_base.specs.declared.ids.TypeId.{TypeId}
use Rattle.wf_base.specs.declared.kind.Kind.{Kind}
use Rattle.wf_names.specs.declared.world.LinkError.{LinkError}
use Rattle.wf_operation.specs.declared.slot.SlotKind.{SlotKind}
use Rattle.wf_operation.specs.declared.sort.Call.{Call}
use Rattle.wf_operation.specs.declared.sort.Call.TheVariants.{Virtual, Special, Static, Interface}
use Rattle.wf_operation.specs.declared.sort.Sort.{Sort}
use Rattle.wf_operation.specs.declared.sort.Sort.TheVariants as sort
use Rattle.wf_linking.specs.declared.linked.Linked.{Linked}
use Rattle.wf_linking.specs.declared.linked.Linked.TheVariants as linked
use Rattle.wf_subtype.specs.Subtypes.{AllTypes}
use Rattle.wf_rows.specs.declared.action.Action.{Action}
use Rattle.wf_rows.specs.declared.action.Action.TheVariants.{Calls, Computes, Literal, Makes, Tests}
use Rattle.wf_rows.specs.declared.action.Computation.TheVariants.{Int}
use Rattle.wf_rows.specs.declared.action.Making.TheVariants.{Object, ManyArray}
use Rattle.wf_rows.specs.declared.action.TypeTest.TheVariants.{Cast, InstanceOf}
use Rattle.wf_opcode.specs.Instructions.{place_of}
use Rattle.wf_subtype.specs.Universe.{letter_of, array_name, operand_name}
use Rattle.wf_actions.specs.Named.{type_named, type_of_class, with_components}
use Rattle.wf_actions.specs.Operands.{top_kind}
use Rattle.wf_rows.specs.declared.action.Computation.{Computation}
use Rattle.wf_rows.specs.Actions.{computation_of, control_action, computing_or}
use Rattle.wf_actions.specs.Actions.{At, Program, get_static, put_static, get, put, new_object, new_references, new_many, many_arrays, call_static, selected_call, call_selected, call, makes_array, slots_at, linked_action, int_at, IsAction, IsNamedAction, IsLiteralBy, IsConstant}
use Rattle.wf_actions.specs.Actions.IsAction.{plain, named}
use Rattle.wf_actions.specs.Actions.IsConstant.{int, literal}

-- where it is such a call, it has these candidates
abbrev pub HasThese : List MethodId → Option Action → Type 0
HasThese cs (Some (Calls (Ok c))) = c.candidates ≡ cs
HasThese cs other = Unit {0}

module _ (cs : List MethodId) where
  is_none : (a : Option Action) → a ≡ None → HasThese cs a
  is_none a e = subst (HasThese cs) (sym e) tt

  mapped : {A : Type 0} (f : A → Action) (x : Option A) → ((y : A) → HasThese cs (Some (f y))) → HasThese cs (option_map f x)
  mapped f None each = tt
  mapped f (Some y) each = each y

  then : {A : Type 0} (f : A → Option Action) (x : Option A) → ((y : A) → HasThese cs (f y)) → HasThese cs (option_and_then f x)
  then f None each = tt
  then f (Some y) each = each y

  control : (s : Sort) → HasThese cs (control_action s)
  control sort.Nothing = tt
  control sort.NullConstant = tt
  control sort.IntConstant = tt
  control sort.LongConstant = tt
  control sort.PoolConstant = tt
  control sort.PoolLong = tt
  control (sort.Load k) = tt
  control (sort.Store k) = tt
  control (sort.ArrayLoad k) = tt
  control (sort.ArrayStore k) = tt
  control (sort.Shuffle k) = tt
  control (sort.IntArithmetic k) = tt
  control (sort.LongArithmetic k) = tt
  control (sort.IntShift k) = tt
  control (sort.LongShift k) = tt
  control sort.IntNegate = tt
  control sort.LongNegate = tt
  control sort.Increment = tt
  control sort.IntToLong = tt
  control sort.LongToInt = tt
  control (sort.Narrow k) = tt
  control sort.CompareLongs = tt
  control (sort.CompareToZero k) = tt
  control (sort.CompareInts k) = tt
  control (sort.CompareRefs k) = tt
  control (sort.CompareToNull k) = tt
  control sort.Jump = tt
  control sort.Switch = tt
  control (sort.Return k) = tt
  control sort.ReturnNothing = tt
  control sort.GetStatic = tt
  control sort.PutStatic = tt
  control sort.GetField = tt
  control sort.PutField = tt
  control (sort.Invoke k) = tt
  control sort.New = tt
  control sort.NewArray = tt
  control sort.NewRefArray = tt
  control sort.NewManyArray = tt
  control sort.ArrayLength = tt
  control sort.Throw = tt
  control sort.Cast = tt
  control sort.InstanceOf = tt
  control sort.EnterMonitor = tt
  control sort.ExitMonitor = tt

  computing : (c : Option Computation) (a : Option Action) → HasThese cs a → HasThese cs (computing_or c a)
  computing (Some c) a h = tt
  computing None a h = h

  get_static_has : (r : Result Linked LinkError) → HasThese cs (get_static r)
  get_static_has (Err e) = tt
  get_static_has (Ok (linked.Field f)) = tt
  get_static_has (Ok (linked.Object c)) = tt
  get_static_has (Ok (linked.Type c)) = tt
  get_static_has (Ok (linked.Method m)) = tt

  put_static_has : (r : Result Linked LinkError) (k : Kind) → HasThese cs (put_static r k)
  put_static_has (Err e) k = tt
  put_static_has (Ok (linked.Field f)) k = tt
  put_static_has (Ok (linked.Object c)) k = tt
  put_static_has (Ok (linked.Type c)) k = tt
  put_static_has (Ok (linked.Method m)) k = tt

  get_has : (r : Result Linked LinkError) → HasThese cs (get r)
  get_has (Err e) = tt
  get_has (Ok (linked.Field f)) = tt
  get_has (Ok (linked.Object c)) = tt
  get_has (Ok (linked.Type c)) = tt
  get_has (Ok (linked.Method m)) = tt

  put_has : (r : Result Linked LinkError) (k : Kind) → HasThese cs (put r k)
  put_has (Err e) k = tt
  put_has (Ok (linked.Field f)) k = tt
  put_has (Ok (linked.Object c)) k = tt
  put_has (Ok (linked.Type c)) k = tt
  put_has (Ok (linked.Method m)) k = tt

  new_object_has : (types : AllTypes) (r : Result Linked LinkError) → HasThese cs (new_object types r)
  new_object_has types (Err e) = tt
  new_object_has types (Ok (linked.Object c)) = mapped (λ (t : TypeId). Makes (Object (Ok (record { class = c; made = t })))) (type_of_class types c) (λ t. tt)
  new_object_has types (Ok (linked.Type c)) = tt
  new_object_has types (Ok (linked.Field f)) = tt
  new_object_has types (Ok (linked.Method m)) = tt

  new_references_has : (types : AllTypes) (name : Option (List ℕ)) (r : Result Linked LinkError) → HasThese cs (new_references types name r)
  new_references_has types name (Err e) = tt
  new_references_has types name (Ok (linked.Type c)) = then (λ (n : List ℕ). option_map makes_array (type_named types (array_name n))) name (λ n. mapped makes_array (type_named types (array_name n)) (λ t. tt))
  new_references_has types name (Ok (linked.Object c)) = tt
  new_references_has types name (Ok (linked.Field f)) = tt
  new_references_has types name (Ok (linked.Method m)) = tt

  many_has : (types : AllTypes) (name : List ℕ) (n : ℕ) → HasThese cs (many_arrays types name n)
  many_has types name zero = tt
  many_has types name (suc n) =
      then (λ (t : TypeId). option_map (λ (ts : List TypeId). Makes (ManyArray (Ok (record { array = t; components = ts })))) (with_components types [] n name)) (type_named types name)
      (λ t. mapped (λ (ts : List TypeId). Makes (ManyArray (Ok (record { array = t; components = ts })))) (with_components types [] n name) (λ ts. tt))

  new_many_has : (types : AllTypes) (name : Option (List ℕ)) (lengths : Option ℕ) (r : Result Linked LinkError) → HasThese cs (new_many types name lengths r)
  new_many_has types name lengths (Err e) = tt
  new_many_has types name lengths (Ok (linked.Type c)) = then (λ (n : List ℕ). option_and_then (many_arrays types n) lengths) name (λ n. then (many_arrays types n) lengths (λ k. many_has types n k))
  new_many_has types name lengths (Ok (linked.Object c)) = tt
  new_many_has types name lengths (Ok (linked.Field f)) = tt
  new_many_has types name lengths (Ok (linked.Method m)) = tt

  static_has : (slots : List SlotKind) (r : Result Linked LinkError) → HasThese cs (call_static slots r)
  static_has slots (Err e) = tt
  static_has slots (Ok (linked.Method m)) = tt
  static_has slots (Ok (linked.Object c)) = tt
  static_has slots (Ok (linked.Type c)) = tt
  static_has slots (Ok (linked.Field f)) = tt

  literal_has : (p : Program) (l : Option (Result Linked LinkError)) (a : Option Action) → IsLiteralBy p l a → HasThese cs a
  literal_has p (Some (Ok (linked.Object c))) a is = subst (HasThese cs) (sym is.is) (mapped (λ (t : TypeId). Literal (Ok (record { class = t; fields = is.fields }))) (type_of_class p.types c) (λ t. tt))
  literal_has p (Some (Ok (linked.Type c))) a is = is_none a is
  literal_has p (Some (Ok (linked.Field f))) a is = is_none a is
  literal_has p (Some (Ok (linked.Method m))) a is = is_none a is
  literal_has p (Some (Err e)) a is = subst (HasThese cs) (sym is) tt
  literal_has p None a is = is_none a is

selected_has : (site : ℕ) (candidates : List MethodId) (slots : List SlotKind) → HasThese candidates (selected_call site candidates slots)
selected_has site candidates [] = tt
selected_has site candidates (slot ∷ rest) = refl

call_selected_has : (x : At) (r : Result Linked LinkError) → HasThese x.candidates (call_selected x r)
call_selected_has x (Err e) = tt
call_selected_has x (Ok (linked.Method m)) = selected_has x.site x.candidates (slots_at x)
call_selected_has x (Ok (linked.Object c)) = tt
call_selected_has x (Ok (linked.Type c)) = tt
call_selected_has x (Ok (linked.Field f)) = tt

call_has : (x : At) (how : Call) (r : Result Linked LinkError) → HasThese x.candidates (call x how r)
call_has x Static r = static_has x.candidates (slots_at x) r
call_has x Virtual r = call_selected_has x r
call_has x Special r = call_selected_has x r
call_has x Interface r = call_selected_has x r

linked_has : (types : AllTypes) (x : At) (s : Sort) (r : Result Linked LinkError) → HasThese x.candidates (linked_action types x s r)
linked_has types x sort.GetStatic r = get_static_has x.candidates r
linked_has types x sort.PutStatic r = then x.candidates (put_static r) (top_kind (slots_at x)) (λ k. put_static_has x.candidates r k)
linked_has types x sort.GetField r = get_has x.candidates r
linked_has types x sort.PutField r = then x.candidates (put r) (top_kind (slots_at x)) (λ k. put_has x.candidates r k)
linked_has types x sort.New r = new_object_has x.candidates types r
linked_has types x sort.NewRefArray r = new_references_has x.candidates types (operand_name x.pool x.instr) r
linked_has types x sort.NewManyArray r = new_many_has x.candidates types (operand_name x.pool x.instr) (place_of x.instr.b) r
linked_has types x (sort.Invoke how) r = call_has x how r
linked_has types x other r = tt

constant_has : (p : Program) (x : At) (a : Option Action) → IsConstant p x a → HasThese x.candidates a
constant_has p x _ (int a e) = subst (HasThese x.candidates) e (mapped x.candidates (λ (n : ℤ). Computes (Int n)) (int_at x) (λ n. tt))
constant_has p x _ (literal a e is) = literal_has x.candidates p is.linked a is.is

named_has : (p : Program) (x : At) (s : Sort) (a : Option Action) → IsNamedAction p x s a → HasThese x.candidates a
named_has p x sort.PoolConstant a is = constant_has p x a is
named_has p x sort.NewArray a is = subst (HasThese x.candidates) (sym is) (then x.candidates (λ (code : ℕ). option_map makes_array (type_named p.types (91 ∷ letter_of code ∷ []))) (place_of x.instr.a) (λ code. mapped x.candidates makes_array (type_named p.types (91 ∷ letter_of code ∷ [])) (λ t. tt)))
named_has p x sort.Cast a is = subst (HasThese x.candidates) (sym is.is) (mapped x.candidates (λ (t : Result TargetId LinkError). Tests (Cast t)) is.tested (λ t. tt))
named_has p x sort.InstanceOf a is = subst (HasThese x.candidates) (sym is.is) (mapped x.candidates (λ (t : Result TargetId LinkError). Tests (InstanceOf t)) is.tested (λ t. tt))
named_has p x sort.Nothing a is = subst (HasThese x.candidates) (sym is.is) (then x.candidates (linked_action p.types x sort.Nothing) is.linked (λ r. linked_has p.types x sort.Nothing r))
named_has p x sort.NullConstant a is = subst (HasThese x.candidates) (sym is.is) (then x.candidates (linked_action p.types x sort.NullConstant) is.linked (λ r. linked_has p.types x sort.NullConstant r))
named_has p x sort.IntConstant a is = subst (HasThese x.candidates) (sym is.is) (then x.candidates (linked_action p.types x sort.IntConstant) is.linked (λ r. linked_has p.types x sort.IntConstant r))
named_has p x sort.LongConstant a is = subst (HasThese x.candidates) (sym is.is) (then x.candidates (linked_action p.types x sort.LongConstant) is.linked (λ r. linked_has p.types x sort.LongConstant r))
named_has p x sort.PoolLong a is = subst (HasThese x.candidates) (sym is.is) (then x.candidates (linked_action p.types x sort.PoolLong) is.linked (λ r. linked_has p.types x sort.PoolLong r))
named_has p x (sort.Load k) a is = subst (HasThese x.candidates) (sym is.is) (then x.candidates (linked_action p.types x (sort.Load k)) is.linked (λ r. linked_has p.types x (sort.Load k) r))
named_has p x (sort.Store k) a is = subst (HasThese x.candidates) (sym is.is) (then x.candidates (linked_action p.types x (sort.Store k)) is.linked (λ r. linked_has p.types x (sort.Store k) r))
named_has p x (sort.ArrayLoad k) a is = subst (HasThese x.candidates) (sym is.is) (then x.candidates (linked_action p.types x (sort.ArrayLoad k)) is.linked (λ r. linked_has p.types x (sort.ArrayLoad k) r))
named_has p x (sort.ArrayStore k) a is = subst (HasThese x.candidates) (sym is.is) (then x.candidates (linked_action p.types x (sort.ArrayStore k)) is.linked (λ r. linked_has p.types x (sort.ArrayStore k) r))
named_has p x (sort.Shuffle k) a is = subst (HasThese x.candidates) (sym is.is) (then x.candidates (linked_action p.types x (sort.Shuffle k)) is.linked (λ r. linked_has p.types x (sort.Shuffle k) r))
named_has p x (sort.IntArithmetic k) a is = subst (HasThese x.candidates) (sym is.is) (then x.candidates (linked_action p.types x (sort.IntArithmetic k)) is.linked (λ r. linked_has p.types x (sort.IntArithmetic k) r))
named_has p x (sort.LongArithmetic k) a is = subst (HasThese x.candidates) (sym is.is) (then x.candidates (linked_action p.types x (sort.LongArithmetic k)) is.linked (λ r. linked_has p.types x (sort.LongArithmetic k) r))
named_has p x (sort.IntShift k) a is = subst (HasThese x.candidates) (sym is.is) (then x.candidates (linked_action p.types x (sort.IntShift k)) is.linked (λ r. linked_has p.types x (sort.IntShift k) r))
named_has p x (sort.LongShift k) a is = subst (HasThese x.candidates) (sym is.is) (then x.candidates (linked_action p.types x (sort.LongShift k)) is.linked (λ r. linked_has p.types x (sort.LongShift k) r))
named_has p x sort.IntNegate a is = subst (HasThese x.candidates) (sym is.is) (then x.candidates (linked_action p.types x sort.IntNegate) is.linked (λ r. linked_has p.types x sort.IntNegate r))
named_has p x sort.LongNegate a is = subst (HasThese x.candidates) (sym is.is) (then x.candidates (linked_action p.types x sort.LongNegate) is.linked (λ r. linked_has p.types x sort.LongNegate r))
named_has p x sort.Increment a is = subst (HasThese x.candidates) (sym is.is) (then x.candidates (linked_action p.types x sort.Increment) is.linked (λ r. linked_has p.types x sort.Increment r))
named_has p x sort.IntToLong a is = subst (HasThese x.candidates) (sym is.is) (then x.candidates (linked_action p.types x sort.IntToLong) is.linked (λ r. linked_has p.types x sort.IntToLong r))
named_has p x sort.LongToInt a is = subst (HasThese x.candidates) (sym is.is) (then x.candidates (linked_action p.types x sort.LongToInt) is.linked (λ r. linked_has p.types x sort.LongToInt r))
named_has p x (sort.Narrow k) a is = subst (HasThese x.candidates) (sym is.is) (then x.candidates (linked_action p.types x (sort.Narrow k)) is.linked (λ r. linked_has p.types x (sort.Narrow k) r))
named_has p x sort.CompareLongs a is = subst (HasThese x.candidates) (sym is.is) (then x.candidates (linked_action p.types x sort.CompareLongs) is.linked (λ r. linked_has p.types x sort.CompareLongs r))
named_has p x (sort.CompareToZero k) a is = subst (HasThese x.candidates) (sym is.is) (then x.candidates (linked_action p.types x (sort.CompareToZero k)) is.linked (λ r. linked_has p.types x (sort.CompareToZero k) r))
named_has p x (sort.CompareInts k) a is = subst (HasThese x.candidates) (sym is.is) (then x.candidates (linked_action p.types x (sort.CompareInts k)) is.linked (λ r. linked_has p.types x (sort.CompareInts k) r))
named_has p x (sort.CompareRefs k) a is = subst (HasThese x.candidates) (sym is.is) (then x.candidates (linked_action p.types x (sort.CompareRefs k)) is.linked (λ r. linked_has p.types x (sort.CompareRefs k) r))
named_has p x (sort.CompareToNull k) a is = subst (HasThese x.candidates) (sym is.is) (then x.candidates (linked_action p.types x (sort.CompareToNull k)) is.linked (λ r. linked_has p.types x (sort.CompareToNull k) r))
named_has p x sort.Jump a is = subst (HasThese x.candidates) (sym is.is) (then x.candidates (linked_action p.types x sort.Jump) is.linked (λ r. linked_has p.types x sort.Jump r))
named_has p x sort.Switch a is = subst (HasThese x.candidates) (sym is.is) (then x.candidates (linked_action p.types x sort.Switch) is.linked (λ r. linked_has p.types x sort.Switch r))
named_has p x (sort.Return k) a is = subst (HasThese x.candidates) (sym is.is) (then x.candidates (linked_action p.types x (sort.Return k)) is.linked (λ r. linked_has p.types x (sort.Return k) r))
named_has p x sort.ReturnNothing a is = subst (HasThese x.candidates) (sym is.is) (then x.candidates (linked_action p.types x sort.ReturnNothing) is.linked (λ r. linked_has p.types x sort.ReturnNothing r))
named_has p x sort.GetStatic a is = subst (HasThese x.candidates) (sym is.is) (then x.candidates (linked_action p.types x sort.GetStatic) is.linked (λ r. linked_has p.types x sort.GetStatic r))
named_has p x sort.PutStatic a is = subst (HasThese x.candidates) (sym is.is) (then x.candidates (linked_action p.types x sort.PutStatic) is.linked (λ r. linked_has p.types x sort.PutStatic r))
named_has p x sort.GetField a is = subst (HasThese x.candidates) (sym is.is) (then x.candidates (linked_action p.types x sort.GetField) is.linked (λ r. linked_has p.types x sort.GetField r))
named_has p x sort.PutField a is = subst (HasThese x.candidates) (sym is.is) (then x.candidates (linked_action p.types x sort.PutField) is.linked (λ r. linked_has p.types x sort.PutField r))
named_has p x (sort.Invoke k) a is = subst (HasThese x.candidates) (sym is.is) (then x.candidates (linked_action p.types x (sort.Invoke k)) is.linked (λ r. linked_has p.types x (sort.Invoke k) r))
named_has p x sort.New a is = subst (HasThese x.candidates) (sym is.is) (then x.candidates (linked_action p.types x sort.New) is.linked (λ r. linked_has p.types x sort.New r))
named_has p x sort.NewRefArray a is = subst (HasThese x.candidates) (sym is.is) (then x.candidates (linked_action p.types x sort.NewRefArray) is.linked (λ r. linked_has p.types x sort.NewRefArray r))
named_has p x sort.NewManyArray a is = subst (HasThese x.candidates) (sym is.is) (then x.candidates (linked_action p.types x sort.NewManyArray) is.linked (λ r. linked_has p.types x sort.NewManyArray r))
named_has p x sort.ArrayLength a is = subst (HasThese x.candidates) (sym is.is) (then x.candidates (linked_action p.types x sort.ArrayLength) is.linked (λ r. linked_has p.types x sort.ArrayLength r))
named_has p x sort.Throw a is = subst (HasThese x.candidates) (sym is.is) (then x.candidates (linked_action p.types x sort.Throw) is.linked (λ r. linked_has p.types x sort.Throw r))
named_has p x sort.EnterMonitor a is = subst (HasThese x.candidates) (sym is.is) (then x.candidates (linked_action p.types x sort.EnterMonitor) is.linked (λ r. linked_has p.types x sort.EnterMonitor r))
named_has p x sort.ExitMonitor a is = subst (HasThese x.candidates) (sym is.is) (then x.candidates (linked_action p.types x sort.ExitMonitor) is.linked (λ r. linked_has p.types x sort.ExitMonitor r))

-- what an instruction does, where it is such a call
pub action_has : (p : Program) (x : At) (a : Option Action) → IsAction p x a → HasThese x.candidates a
action_has p x _ (plain a e) = subst (HasThese x.candidates) e (computing x.candidates (computation_of x.operation.sort x.instr.a) (control_action x.operation.sort) (control x.candidates x.operation.sort))
action_has p x _ (named a e is) = named_has p x x.operation.sort a is

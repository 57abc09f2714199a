-- Instructions that make objects, and tests of types (JVMS 6.5, new, newarray, anewarray, multianewarray, ldc, checkcast,
-- instanceof).
use Rattle.std.specs.Prelude.{◌≡◌, ℕ, suc, pos, negsuc, Bool, true, false, List, [], ◌∷◌, length, map, Result, Ok, Err, if◌then◌else◌}
use Rattle.wf_base.specs.declared.ids.TargetId.{TargetId}
use Rattle.wf_base.specs.declared.ids.TypeId.{TypeId}
use Rattle.wf_names.specs.declared.world.LinkError.{LinkError}
use Rattle.wf_rows.specs.Errors.{throwable_of}
use Rattle.wf_rows.specs.declared.action.Literal.{Literal}
use Rattle.wf_rows.specs.declared.action.Making.{Making}
use Rattle.wf_rows.specs.declared.action.Making.TheVariants as making
use Rattle.wf_rows.specs.declared.action.ManyArray.{ManyArray}
use Rattle.wf_rows.specs.declared.action.NewObject.{NewObject}
use Rattle.wf_rows.specs.declared.action.TypeTest.{TypeTest}
use Rattle.wf_rows.specs.declared.action.TypeTest.TheVariants.{Cast, InstanceOf}
use Rattle.wf_rows.specs.declared.throwable.Throwable.TheVariants as throwable
use Rattle.wf_machine.specs.Values.{Object, Value, Int, Null, Ref}
use Rattle.wf_machine.specs.Memory.{Memory, next_object}
use Rattle.wf_machine.specs.World.{World, made, made_with}
use Rattle.wf_machine.specs.Stated.{IsAmong, IsLiteral}
use Rattle.wf_machine.specs.Fields.{Waits, IsReady}
use Rattle.wf_machine.specs.At.{At, Outcome, Goes, Throws, operand, operands, gives}

-- So many arrays of the first of some types are made, in the order of the list. Each has the first of some lengths, and arrays
-- of the next type, with the next length, as its elements, or zeros where it is the last type. Where a length is 0 no further
-- arrays are made.
pub data MakesArrays (w : World) : List TypeId → List ℕ → ℕ → Memory → List Object → Memory → Type 0 where
  none : (types : List TypeId) (lengths : List ℕ) (memory : Memory) → MakesArrays w types lengths 0 memory [] memory
  flat : (t : TypeId) (n count : ℕ) (os : List Object) (memory after : Memory) → MakesArrays w (t ∷ []) (n ∷ []) count (made w memory t n) os after → MakesArrays w (t ∷ []) (n ∷ []) (suc count) memory (next_object memory t ∷ os) after
  deep : (t u : TypeId) (types : List TypeId) (n l count : ℕ) (lengths : List ℕ) (inner os : List Object) (memory given after : Memory) → MakesArrays w (u ∷ types) (l ∷ lengths) n memory inner given → MakesArrays w (t ∷ u ∷ types) (n ∷ l ∷ lengths) count (made_with w given t (map Ref inner)) os after → MakesArrays w (t ∷ u ∷ types) (n ∷ l ∷ lengths) (suc count) memory (next_object given t ∷ os) after

abbrev pub as_length : ℕ → Value
as_length n = Int (pos n)

abbrev pub many_types : ManyArray → List TypeId
many_types m = m.array ∷ m.components

-- A class or an array that isn't there is looked for first, then a length below 0.
pub data MakesObject (k : At) : Making → Outcome → Type 0 where
  -- new: its class is initialized first (JVMS 5.5)
  object_unlinked : (e : LinkError) → MakesObject k (making.Object (Err e)) (Throws (throwable_of e))
  object_waits : (o : NewObject) (out : Outcome) → Waits k o.class out → MakesObject k (making.Object (Ok o)) out
  object : (o : NewObject) → IsReady k o.class → MakesObject k (making.Object (Ok o)) (Goes 0 (Ref (next_object k.memory o.made)) (made k.world k.memory o.made 0))
  -- newarray, anewarray
  array_unlinked : (e : LinkError) → MakesObject k (making.Array (Err e)) (Throws (throwable_of e))
  array_negative : (t : TypeId) (n : ℕ) → operand k 0 ≡ Int (negsuc n) → MakesObject k (making.Array (Ok t)) (Throws throwable.NegativeArraySize)
  array : (t : TypeId) (n : ℕ) → operand k 0 ≡ Int (pos n) → MakesObject k (making.Array (Ok t)) (Goes 0 (Ref (next_object k.memory t)) (made k.world k.memory t n))
  -- multianewarray
  arrays_unlinked : (e : LinkError) → MakesObject k (making.ManyArray (Err e)) (Throws (throwable_of e))
  arrays_negative : (m : ManyArray) (n : ℕ) → IsAmong (operands k (length (many_types m))) (Int (negsuc n)) → MakesObject k (making.ManyArray (Ok m)) (Throws throwable.NegativeArraySize)
  arrays : (m : ManyArray) (lengths : List ℕ) (o : Object) (after : Memory) → operands k (length (many_types m)) ≡ map as_length lengths → MakesArrays k.world (many_types m) lengths 1 k.memory (o ∷ []) after → MakesObject k (making.ManyArray (Ok m)) (Goes 0 (Ref o) after)

-- ldc of a string or a class
pub data LoadsLiteral (k : At) : Result Literal LinkError → Outcome → Type 0 where
  unlinked : (e : LinkError) → LoadsLiteral k (Err e) (Throws (throwable_of e))
  literal : (l : Literal) (o : Object) (after : Memory) → IsLiteral k.world k.memory l o after → LoadsLiteral k (Ok l) (Goes 0 (Ref o) after)

-- 1 where an object is an instance, else 0
abbrev pub as_int : Bool → Value
as_int b = Int (if b then pos 1 else pos 0)

-- checkcast and instanceof; for null nothing is resolved
pub data TestsType (k : At) : TypeTest → Outcome → Type 0 where
  cast_of_null : (u : Result TargetId LinkError) → operand k 0 ≡ Null → TestsType k (Cast u) (gives k Null)
  cast_unlinked : (e : LinkError) (o : Object) → operand k 0 ≡ Ref o → TestsType k (Cast (Err e)) (Throws (throwable_of e))
  cast : (u : TargetId) (o : Object) → operand k 0 ≡ Ref o → k.world.is_under o.type u ≡ true → TestsType k (Cast (Ok u)) (gives k (Ref o))
  cast_refused : (u : TargetId) (o : Object) → operand k 0 ≡ Ref o → k.world.is_under o.type u ≡ false → TestsType k (Cast (Ok u)) (Throws throwable.ClassCast)
  is_null : (u : Result TargetId LinkError) → operand k 0 ≡ Null → TestsType k (InstanceOf u) (gives k (as_int false))
  is_unlinked : (e : LinkError) (o : Object) → operand k 0 ≡ Ref o → TestsType k (InstanceOf (Err e)) (Throws (throwable_of e))
  is : (u : TargetId) (o : Object) → operand k 0 ≡ Ref o → TestsType k (InstanceOf (Ok u)) (gives k (as_int (k.world.is_under o.type u)))

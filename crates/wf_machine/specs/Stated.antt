-- Values that the summary states, and literals (this project's own; JVMS 5.1 for string literals).
use Rattle.std.specs.Prelude.{◌≡◌, ℕ, ℤ, true, List, [], ◌∷◌, Some, slice_get}
use Rattle.std.specs.Int.{w32, w64}
use Rattle.std.specs.Int.RustNames.{FitsSigned}
use Rattle.wf_base.specs.declared.ids.FieldId.{FieldId}
use Rattle.wf_base.specs.declared.ids.TargetId.{TargetId}
use Rattle.wf_base.specs.declared.ids.TypeId.{TypeId}
use Rattle.wf_rows.specs.declared.action.Literal.{Literal}
use Rattle.wf_rows.specs.declared.action.LiteralField.{LiteralField}
use Rattle.wf_rows.specs.declared.action.StatedValue.{StatedValue}
use Rattle.wf_rows.specs.declared.action.StatedValue.TheVariants as stated
use Rattle.wf_machine.specs.Values.{Object, Value, Int, Long, Null, Ref}
use Rattle.wf_machine.specs.Memory.{Memory, next_object, with_field, with_literal, with_written}
use Rattle.wf_machine.specs.World.{World, made, CanCount}

-- an element of a list, at some place
pub record IsAmong {A : Type 0} (xs : List A) (x : A) : Type 0 where
  pub place : ℕ
  pub there : slice_get xs place ≡ Some x

-- an object of a type is made: of a class, or an array of any length
pub data Makes (w : World) (memory : Memory) (t : TypeId) : Object → Memory → Type 0 where
  makes : (count : ℕ) → CanCount w t count → Makes w memory t (next_object memory t) (made w memory t count)

-- What a stated value may be: null, an int, any int, any long, a new object, or null or an object that exists and is under a
-- class.
pub data IsStated (w : World) (memory : Memory) : StatedValue → Value → Memory → Type 0 where
  null : IsStated w memory stated.Null Null memory
  int : (n : ℤ) → IsStated w memory (stated.Int n) (Int n) memory
  any_int : (n : ℤ) → FitsSigned w32 n → IsStated w memory stated.AnyInt (Int n) memory
  any_long : (n : ℤ) → FitsSigned w64 n → IsStated w memory stated.AnyLong (Long n) memory
  new : (t : TypeId) (o : Object) (after : Memory) → Makes w memory t o after → IsStated w memory (stated.New t) (Ref o) after
  no_object : (u : TargetId) → IsStated w memory (stated.Under u) Null memory
  object : (u : TargetId) (o : Object) → IsAmong memory.objects o → w.is_under o.type u ≡ true → IsStated w memory (stated.Under u) (Ref o) memory

-- fields of an object get what lines state, one after another
pub data Sets (w : World) (o : Object) : List LiteralField → Memory → Memory → Type 0 where
  none : (memory : Memory) → Sets w o [] memory memory
  next : (line : LiteralField) (lines : List LiteralField) (v : Value) (memory given after : Memory) → IsStated w memory line.value v given → Sets w o lines (with_written (with_field given o line.field v) line.field) after → Sets w o (line ∷ lines) memory after

-- one of some lines is of a field
pub record HasLine (lines : List LiteralField) (f : FieldId) : Type 0 where
  pub line : LiteralField
  pub there : IsAmong lines line
  pub is : line.field ≡ f

-- A literal: an earlier one of its class, or a new object, each of whose fields with a line has the value of one of its
-- lines.
pub data IsLiteral (w : World) (memory : Memory) (l : Literal) : Object → Memory → Type 0 where
  earlier : (o : Object) → IsAmong memory.literals o → o.type ≡ l.class → IsLiteral w memory l o memory
  new : (o : Object) (chosen : List LiteralField) (given after : Memory) → Makes w memory l.class o given → ((line : LiteralField) → IsAmong chosen line → IsAmong l.fields line) → ((line : LiteralField) → IsAmong l.fields line → HasLine chosen line.field) → Sets w o chosen (with_literal given o) after → IsLiteral w memory l o after

-- What the summary says of literals of a class (this project's own).
use Rattle.std.specs.Prelude.{◌≡◌, ◌≢◌, ℕ, ◌+◌, ◌<◌, List, [], ◌∷◌, ◌++◌, Option, Some, None, slice_get}
use Rattle.wf_data.specs.declared.class_info.ClassInfo.{ClassInfo}
use Rattle.wf_data.specs.declared.class_info.FieldInfo.{FieldInfo}
use Rattle.wf_classes.specs.Members.{field_keys, member_count}
use Rattle.wf_classes.specs.Own.{IsField}
use Rattle.wf_binding.specs.declared.numbers.LiteralNumbers.{LiteralNumbers}
use Rattle.wf_binding.specs.declared.numbers.ValueNumbers.{ValueNumbers}
use Rattle.wf_binding.specs.declared.numbers.ValueNumbers.TheVariants as numbers
use Rattle.wf_rows.specs.declared.action.LiteralField.{LiteralField}
use Rattle.wf_rows.specs.declared.action.StatedValue.{StatedValue}
use Rattle.wf_rows.specs.declared.action.StatedValue.TheVariants as stated

-- a value that a line on literals can state: there are no arguments
abbrev pub stated_of : ValueNumbers → Option StatedValue
stated_of numbers.Null = Some stated.Null
stated_of numbers.AnyInt = Some stated.AnyInt
stated_of numbers.AnyLong = Some stated.AnyLong
stated_of (numbers.Int n) = Some (stated.Int n)
stated_of (numbers.New t) = Some (stated.New t)
stated_of (numbers.Under u) = Some (stated.Under u)
stated_of (numbers.Arg n) = None

-- what a line says of literals of class c: nothing where its field is that of another class
pub data IsLiteralField (classes : List ClassInfo) (c : ℕ) (line : LiteralNumbers) : Option LiteralField → Type 0 where
  own : (info : FieldInfo) (value : StatedValue) → IsField classes line.field.0 c info → stated_of line.value ≡ Some value → IsLiteralField classes c line (Some (record { field = line.field; value = value }))
  other : (d : ℕ) (info : FieldInfo) → IsField classes line.field.0 d info → d ≢ c → IsLiteralField classes c line None
  unstated : stated_of line.value ≡ None → IsLiteralField classes c line None

abbrev pub with_field : List LiteralField → Option LiteralField → List LiteralField
with_field fields None = fields
with_field fields (Some field) = fields ++ field ∷ []

-- what the first n lines say, in their order
pub data AreLiteralFields (classes : List ClassInfo) (c : ℕ) (lines : List LiteralNumbers) : ℕ → List LiteralField → Type 0 where
  none : AreLiteralFields classes c lines 0 []
  next : (n : ℕ) (fields : List LiteralField) (line : LiteralNumbers) (field : Option LiteralField) → AreLiteralFields classes c lines n fields → slice_get lines n ≡ Some line → IsLiteralField classes c line field
      → AreLiteralFields classes c lines (n + 1) (with_field fields field)

-- the fields of lines are there
pub record AreFieldsThere (classes : List ClassInfo) (lines : List LiteralNumbers) : Type 0 where
  pub each : (i : ℕ) (line : LiteralNumbers) → slice_get lines i ≡ Some line → line.field.0 < member_count (field_keys classes)

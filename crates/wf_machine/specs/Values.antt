-- Values and objects (JVMS 2.2 to 2.4).
use Rattle.std.specs.Prelude.{ℕ, ◌-◌, ℤ, pos, Bool, true, false, not, ◌&&◌, List, [], ◌∷◌, ◌++◌, length, replicate, slice_index_or, ◌==◌}
use Rattle.std.specs.List.{flat_map}
use Rattle.wf_base.specs.declared.ids.TypeId.{TypeId}
use Rattle.wf_base.specs.declared.kind.Kind.{Kind}
use Rattle.wf_base.specs.declared.kind.Kind.TheVariants as kind
use Rattle.wf_operation.specs.declared.sort.Equality.{Equality}
use Rattle.wf_operation.specs.declared.sort.Equality.TheVariants.{Same, Different}

-- An object: its type, and a number that no other object has (JVMS 2.4).
pub record Object : Type 0 where
  pub type : TypeId
  pub serial : ℕ

-- What a slot, a field or an element holds (JVMS 2.2). Floats and doubles are not followed (this project's own).
pub data Value : Type 0 where
  Int : (n : ℤ) → Value
  Long : (n : ℤ) → Value
  Null : Value
  Ref : (object : Object) → Value

-- whether two objects are one
abbrev pub same_object : Object → Object → Bool
same_object o p = (o.type.0 == p.type.0) && (o.serial == p.serial)

-- whether two references are the same (JVMS 6.5, if_acmp<cond>)
abbrev pub same_reference : Value → Value → Bool
same_reference Null Null = true
same_reference (Ref o) (Ref p) = same_object o p
same_reference a b = false

-- whether references that are the same, or not, are as they have to be
abbrev pub is_so : Equality → Bool → Bool
is_so Same same = same
is_so Different same = not same

-- the default value of a kind (JVMS 2.3, 2.4); that of a float stands for no number, and is never read (own rule)
abbrev pub zero_of : Kind → Value
zero_of kind.Int = Int (pos 0)
zero_of kind.Long = Long (pos 0)
zero_of kind.Ref = Null
zero_of kind.Float = Int (pos 0)
zero_of kind.Double = Int (pos 0)

-- The slots of a value: both slots of a long hold it (own rule; JVMS 2.6.1).
abbrev pub slots_of_value : Value → List Value
slots_of_value (Int n) = Int n ∷ []
slots_of_value (Long n) = Long n ∷ Long n ∷ []
slots_of_value Null = Null ∷ []
slots_of_value (Ref o) = Ref o ∷ []

abbrev pub padded : ℕ → List Value → List Value
padded locals slots = slots ++ replicate (locals - length slots) Null

-- the slots of a frame as its method is entered: the arguments from local 0 on, and nothing yet in the other locals
-- (JVMS 2.6.1)
abbrev pub first_slots : ℕ → List Value → List Value
first_slots locals arguments = padded locals (flat_map slots_of_value arguments)

-- what the slot holds that stands so deep, where 0 is the top of the stack
abbrev pub at_depth : List Value → ℕ → Value
at_depth slots depth = slice_index_or slots (length slots - depth - 1) Null

-- the value of a kind at the top: a long is read in its first slot
abbrev pub top_of : List Value → Kind → Value
top_of slots kind.Int = at_depth slots 0
top_of slots kind.Ref = at_depth slots 0
top_of slots kind.Float = at_depth slots 0
top_of slots kind.Long = at_depth slots 1
top_of slots kind.Double = at_depth slots 1

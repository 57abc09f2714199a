-- The operands of an instruction, by the slots that it takes off the stack.
use Rattle.std.specs.Prelude.{ℕ, ◌-◌, List, [], ◌∷◌, length, Option, Some, None, option_and_then, slice_get}
use Rattle.wf_base.specs.declared.kind.Kind.{Kind}
use Rattle.wf_base.specs.declared.kind.Kind.TheVariants as kind
use Rattle.wf_operation.specs.declared.effect.Effect.{Effect}
use Rattle.wf_operation.specs.declared.effect.Effect.TheVariants.{Acts, Loads, Stores, Increments, Shuffles}
use Rattle.wf_operation.specs.declared.slot.SlotKind.{SlotKind}
use Rattle.wf_operation.specs.declared.slot.SlotKind.TheVariants.{Int, Ref, Long, LongRest, Unused}

-- the slots that an instruction takes to put a value in their place
abbrev pub taken_slots : Effect → List SlotKind
taken_slots (Acts takes gives) = takes
taken_slots (Loads k local) = []
taken_slots (Stores k local) = []
taken_slots (Increments local) = []
taken_slots (Shuffles s) = []

-- how deep an operand stands below so many slots, named by its first slot: the second slot of a long names none
abbrev pub with_depth : SlotKind → ℕ → List ℕ → List ℕ
with_depth LongRest below depths = depths
with_depth Int below depths = below ∷ depths
with_depth Ref below depths = below ∷ depths
with_depth Long below depths = below ∷ depths
with_depth Unused below depths = below ∷ depths

-- the depths of operands that stand one behind another, the last on top
abbrev pub depths_of : List SlotKind → List ℕ
depths_of [] = []
depths_of (slot ∷ rest) = with_depth slot (length rest) (depths_of rest)

-- the kind of the value whose last slot this is
abbrev pub kind_of_last : SlotKind → Option Kind
kind_of_last Int = Some kind.Int
kind_of_last Ref = Some kind.Ref
kind_of_last LongRest = Some kind.Long
kind_of_last Long = None
kind_of_last Unused = None

-- the kind of the operand on top
abbrev pub top_kind : List SlotKind → Option Kind
top_kind slots = option_and_then kind_of_last (slice_get slots (length slots - 1))

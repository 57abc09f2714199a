-- What every place has that a path reaches.
use Rattle.std.specs.Prelude.{ℕ, Bool, List}
use Rattle.wf_operation.specs.declared.slot.SlotKind.{SlotKind}
use Rattle.wf_blocks.specs.declared.body.Body.{Body}
use Rattle.wf_blocks.specs.Answers.{AreReached, HasSlots}
use Rattle.wf_blocks.specs.Graphs.{Graph, KindIs}

-- the kind of a slot
pub record HasKindIs (g : Graph) (place slot : ℕ) : Type 0 where
  pub kind : SlotKind
  pub is : KindIs g place slot kind

-- the number of slots on all paths
pub record HasSlotCount (b : Body) (place : ℕ) : Type 0 where
  pub count : ℕ
  pub are : HasSlots b place count

-- marks at all places that a path reaches
pub record HasMarks (b : Body) : Type 0 where
  pub marks : List Bool
  pub are : AreReached b marks

-- Slots, where their contents come from, and what instructions want of them. The slots of a method are one
-- list: its locals, and behind them the cells of the operand stack, the top last (JVMS 2.6).
use Rattle.std.specs.Prelude.{ℕ, Bool, true, false, not, List, [], ◌∷◌, slice_index_or, if◌then◌else◌}
use Rattle.wf_base.specs.declared.kind.Kind.{Kind}
use Rattle.wf_base.specs.declared.kind.Kind.TheVariants as kind
use Rattle.wf_operation.specs.declared.slot.SlotKind.{SlotKind}
use Rattle.wf_operation.specs.declared.slot.SlotKind.TheVariants.{Int, Ref, Long, LongRest, Unused}
use Rattle.wf_operation.specs.declared.slot.Source.{Source}
use Rattle.wf_operation.specs.declared.slot.Source.TheVariants.{Keep, KeepNoHead, KeepNoRest, Gives}
use Rattle.wf_operation.specs.declared.slot.Wanted.{Wanted}
use Rattle.wf_operation.specs.declared.slot.Wanted.TheVariants.{Anything, NoRest, Only}

-- The slots that a value takes (JVMS 2.6.1). Floats and doubles are not followed, and their slots are never read
-- (this project's own).
abbrev pub slots_of : Kind → List SlotKind
slots_of kind.Int = Int ∷ []
slots_of kind.Ref = Ref ∷ []
slots_of kind.Long = Long ∷ LongRest ∷ []
slots_of kind.Float = Unused ∷ []
slots_of kind.Double = Unused ∷ Unused ∷ []

-- whether two kinds are one
abbrev pub same_kind : SlotKind → SlotKind → Bool
same_kind Int Int = true
same_kind Ref Ref = true
same_kind Long Long = true
same_kind LongRest LongRest = true
same_kind Unused Unused = true
same_kind a b = false

-- whether a slot of this kind is as an instruction wants it
abbrev pub allows : Wanted → SlotKind → Bool
allows Anything k = true
allows NoRest k = not (same_kind k LongRest)
allows (Only only) k = same_kind k only

-- The kind behind an instruction of a slot with this source, where the slot that the source names had this kind
-- in front of it. What is left of a long, half of which was overwritten, can't be read (JVMS 4.10.1.7).
abbrev pub moved : Source → SlotKind → SlotKind
moved (Keep i) k = k
moved (KeepNoHead i) k = if same_kind k Long then Unused else k
moved (KeepNoRest i) k = if same_kind k LongRest then Unused else k
moved (Gives new) k = new

-- the slot that a source names
abbrev pub named_by : Source → ℕ
named_by (Keep i) = i
named_by (KeepNoHead i) = i
named_by (KeepNoRest i) = i
named_by (Gives new) = 0

-- What a slot with this source holds behind an instruction, where slots hold anything: what a slot held in front
-- of it, or what the instruction gives. Nothing stands past the end.
abbrev pub from : {A : Type 0} → List A → A → A → Source → A
from slots given none (Keep i) = slice_index_or slots i none
from slots given none (KeepNoHead i) = slice_index_or slots i none
from slots given none (KeepNoRest i) = slice_index_or slots i none
from slots given none (Gives new) = given

-- Sets of slot kinds: those that paths leave in a slot (this project's own).
use Rattle.std.specs.Prelude.{Bool, false, not, ◌&&◌, ◌||◌, if◌then◌else◌}
use Rattle.wf_operation.specs.declared.slot.SlotKind.{SlotKind}
use Rattle.wf_operation.specs.declared.slot.SlotKind.TheVariants.{Int, Ref, Long, LongRest, Unused}
use Rattle.wf_operation.specs.declared.slot.Source.{Source}
use Rattle.wf_operation.specs.declared.slot.Source.TheVariants.{Keep, KeepNoHead, KeepNoRest, Gives}
use Rattle.wf_operation.specs.declared.slot.Wanted.{Wanted}
use Rattle.wf_operation.specs.Slots.{same_kind, allows}
use Rattle.wf_blocks.specs.declared.seen.Seen.{Seen}

-- whether a kind is in the set
abbrev pub has : Seen → SlotKind → Bool
has s Int = s.int
has s Ref = s.reference
has s Long = s.long
has s LongRest = s.rest
has s Unused = s.unused

-- one kind alone
abbrev pub only : SlotKind → Seen
only k = record { int = same_kind k Int; reference = same_kind k Ref; long = same_kind k Long; rest = same_kind k LongRest; unused = same_kind k Unused }

-- the kinds of both
abbrev pub both : Seen → Seen → Seen
both a b = record { int = a.int || b.int; reference = a.reference || b.reference; long = a.long || b.long; rest = a.rest || b.rest; unused = a.unused || b.unused }

-- whether the second has a kind that the first doesn't have
abbrev pub adds : Seen → Seen → Bool
adds a b = (b.int && not a.int) || (b.reference && not a.reference) || (b.long && not a.long) || (b.rest && not a.rest) || (b.unused && not a.unused)

-- the kinds behind an instruction of a slot with this source
abbrev pub through : Source → Seen → Seen
through (Keep i) s = s
through (KeepNoHead i) s = record { int = s.int; reference = s.reference; long = false; rest = s.rest; unused = s.unused || s.long }
through (KeepNoRest i) s = record { int = s.int; reference = s.reference; long = s.long; rest = false; unused = s.unused || s.rest }
through (Gives k) s = only k

-- whether each of the kinds is as it is wanted
abbrev pub all_allowed : Wanted → Seen → Bool
all_allowed w s =
    (not s.int || allows w Int) && (not s.reference || allows w Ref) && (not s.long || allows w Long)
    && (not s.rest || allows w LongRest) && (not s.unused || allows w Unused)

-- the kind where it is the only one, else unused
abbrev pub kind_seen : Seen → SlotKind
kind_seen s =
    if s.unused then Unused
    else if s.int then (if s.reference || s.long || s.rest then Unused else Int)
    else if s.reference then (if s.long || s.rest then Unused else Ref)
    else if s.long then (if s.rest then Unused else Long)
    else if s.rest then LongRest else Unused

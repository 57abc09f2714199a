-- What an instruction does with slots (JVMS 6.5). Everything that reads code stands on this.
use Rattle.std.specs.Prelude.{ℕ, ◌+◌, ◌-◌, Bool, ◌&&◌, ◌||◌, List, [], ◌∷◌, map, length, slice_index, slice_index_or, nat_lt, nat_le, ◌==◌, if◌then◌else◌}
use Rattle.std.specs.List.{range_with_len}
use Rattle.wf_base.specs.declared.kind.Kind.{Kind}
use Rattle.wf_operation.specs.declared.slot.SlotKind.{SlotKind}
use Rattle.wf_operation.specs.declared.slot.SlotKind.TheVariants.{Int, Unused}
use Rattle.wf_operation.specs.declared.slot.Source.{Source}
use Rattle.wf_operation.specs.declared.slot.Source.TheVariants.{Keep, KeepNoHead, KeepNoRest, Gives}
use Rattle.wf_operation.specs.declared.slot.Wanted.{Wanted}
use Rattle.wf_operation.specs.declared.slot.Wanted.TheVariants.{Anything, NoRest, Only}
use Rattle.wf_operation.specs.declared.sort.Shuffle.{Shuffle}
use Rattle.wf_operation.specs.declared.sort.Shuffle.TheVariants.{Pop, Pop2, Dup, DupX1, DupX2, Dup2, Dup2X1, Dup2X2, Swap}
use Rattle.wf_operation.specs.declared.effect.Effect.{Effect}
use Rattle.wf_operation.specs.declared.effect.Effect.TheVariants.{Acts, Loads, Stores, Increments, Shuffles}
use Rattle.wf_operation.specs.Slots.{slots_of}

-- ---- the stack instructions (JVMS 6.5, pop to swap)

-- how many slots one takes off the stack
abbrev pub taken_by : Shuffle → ℕ
taken_by Pop = 1
taken_by Pop2 = 2
taken_by Dup = 1
taken_by DupX1 = 2
taken_by DupX2 = 3
taken_by Dup2 = 2
taken_by Dup2X1 = 3
taken_by Dup2X2 = 4
taken_by Swap = 2

-- what it puts in their place, the top last: the slots that stood so deep, where 1 is the top
abbrev pub depths : Shuffle → List ℕ
depths Pop = []
depths Pop2 = []
depths Dup = 1 ∷ 1 ∷ []
depths DupX1 = 1 ∷ 2 ∷ 1 ∷ []
depths DupX2 = 1 ∷ 3 ∷ 2 ∷ 1 ∷ []
depths Dup2 = 2 ∷ 1 ∷ 2 ∷ 1 ∷ []
depths Dup2X1 = 2 ∷ 1 ∷ 3 ∷ 2 ∷ 1 ∷ []
depths Dup2X2 = 2 ∷ 1 ∷ 4 ∷ 3 ∷ 2 ∷ 1 ∷ []
depths Swap = 1 ∷ 2 ∷ []

-- Whether it divides the slot that stands so deep from the one below: there the second half of a long would be
-- divided from its first.
abbrev pub divides : Shuffle → ℕ → Bool
divides Pop d = d == 1
divides Pop2 d = d == 2
divides Dup d = d == 1
divides DupX1 d = d == 1 || d == 2
divides DupX2 d = d == 1 || d == 3
divides Dup2 d = d == 2
divides Dup2X1 d = d == 2 || d == 3
divides Dup2X2 d = d == 2 || d == 4
divides Swap d = d == 1 || d == 2

-- ---- all instructions

-- how many slots a value takes
abbrev pub width_of : Kind → ℕ
width_of k = length (slots_of k)

-- how many slots an instruction takes off the stack
abbrev pub taken : Effect → ℕ
taken (Acts takes gives) = length takes
taken (Loads k local) = 0
taken (Stores k local) = width_of k
taken (Increments local) = 0
taken (Shuffles s) = taken_by s

-- how many it puts on it then
abbrev pub put : Effect → ℕ
put (Acts takes gives) = length gives
put (Loads k local) = width_of k
put (Stores k local) = 0
put (Increments local) = 0
put (Shuffles s) = length (depths s)

-- how many locals have to be there
abbrev pub locals_used : Effect → ℕ
locals_used (Acts takes gives) = 0
locals_used (Loads k local) = local + width_of k
locals_used (Stores k local) = local + width_of k
locals_used (Increments local) = local + 1
locals_used (Shuffles s) = 0

-- how many slots there are behind an instruction, where n are in front of it
abbrev pub slots_after : Effect → ℕ → ℕ
slots_after e n = n - taken e + put e

-- Where the slot i comes from behind a store of so many slots from the local on (JVMS 6.5, istore, lstore; 4.10.1.7).
-- The slots beside those lose a long, half of which was overwritten.
abbrev pub stored_at : ℕ → ℕ → ℕ → ℕ → Source
stored_at width local n i =
    if nat_lt i local then (if i + 1 == local then KeepNoHead i else Keep i)
    else if nat_lt i (local + width) then Keep (n - width + (i - local))
    else if i == local + width then KeepNoRest i else Keep i

-- where the slot i has from what it holds behind an instruction, where n slots are in front of it
abbrev pub source_at : Effect → ℕ → ℕ → Source
source_at (Acts takes gives) n i = if nat_lt i (n - length takes) then Keep i else Gives (slice_index_or gives (i - (n - length takes)) Unused)
source_at (Loads k local) n i = if nat_lt i n then Keep i else Keep (local + (i - n))
source_at (Stores k local) n i = stored_at (width_of k) local n i
source_at (Increments local) n i = if i == local then Gives Int else Keep i
source_at (Shuffles s) n i = if nat_lt i (n - taken_by s) then Keep i else Keep (n - slice_index (depths s) (i - (n - taken_by s)))

-- where every slot behind an instruction comes from
abbrev pub sources : Effect → ℕ → List Source
sources e n = map (source_at e n) (range_with_len 0 (slots_after e n))

-- slots of these kinds from the place `first` on, as one of them is wanted
abbrev pub wanted_from : ℕ → List SlotKind → ℕ → Wanted
wanted_from first kinds i = if nat_le first i && nat_lt i (first + length kinds) then Only (slice_index_or kinds (i - first) Unused) else Anything

-- what an instruction wants of the slot i, where n slots are in front of it
abbrev pub wanted : Effect → ℕ → ℕ → Wanted
wanted (Acts takes gives) n i = wanted_from (n - length takes) takes i
wanted (Loads k local) n i = wanted_from local (slots_of k) i
wanted (Stores k local) n i = wanted_from (n - width_of k) (slots_of k) i
wanted (Increments local) n i = if i == local then Only Int else Anything
wanted (Shuffles s) n i = if divides s (n - i) then NoRest else Anything

-- What is kept of a method once its worklist has settled, and what is read off it (this project's own).
use Rattle.std.specs.Prelude.{◌≡◌, ℕ, ◌+◌, ◌<◌, ◌≤◌, ◌↔◌, min, Bool, true, false, not, ◌&&◌, ◌||◌, List, [], ◌∷◌, length, map, slice_index_or, slice_index, All, Option, Some, None, is_some, ◌==◌, if◌then◌else◌, count_by}
use Rattle.wf_operation.specs.declared.slot.SlotKind.{SlotKind}
use Rattle.wf_operation.specs.declared.slot.Source.{Source}
use Rattle.wf_operation.specs.declared.slot.Source.TheVariants.{Keep, KeepNoHead, KeepNoRest, Gives}
use Rattle.wf_blocks.specs.declared.body.Step.{Step}
use Rattle.wf_blocks.specs.declared.body.Body.{Body}
use Rattle.wf_blocks.specs.declared.seen.Seen.{Seen}
use Rattle.wf_blocks.specs.declared.back.Losses.{Losses}
use Rattle.wf_blocks.specs.declared.back.Trail.{Trail}
use Rattle.wf_blocks.specs.declared.back.Trail.TheVariants.{Before, Here}
use Rattle.wf_blocks.specs.SeenKinds.{only}
use Rattle.wf_blocks.specs.Advancing.{width_of}
use Rattle.wf_blocks.specs.Bodies.{locals_of, targets_in, inner_of, graph_of, AreStarts, BodyFits}
use Rattle.wf_blocks.specs.Flowing.{RowFits}
use Rattle.wf_blocks.specs.Graphs.{Path, Reached}
use Rattle.wf_blocks.specs.Methods.{number_of}
use Rattle.wf_blocks.specs.Rows.{seen_at, RowAt, row_in, Settled}

abbrev pub step_pc : Step → ℕ
step_pc s = s.pc

-- the number of the place that stands so many bytes from the start of the code
abbrev pub place_of : Body → ℕ → Option ℕ
place_of b pc = number_of (map step_pc b.steps) pc

-- a body whose numbers are small, and whose places are those of the code
pub record IsMade (b : Body) (pcs : List ℕ) : Type 0 where
  pub fits : BodyFits b
  pub places : pcs ≡ map step_pc b.steps

-- the place there is reached by a path
pub record ReachesPc (b : Body) (pc : ℕ) : Type 0 where
  pub place : ℕ
  pub there : place_of b pc ≡ Some place
  pub reached : Reached (graph_of b) place

-- every path to a place has so many slots
pub record HasSlots (b : Body) (place count : ℕ) : Type 0 where
  pub every : (slots : List SlotKind) → Path (graph_of b) place slots → length slots ≡ count
  pub enough : locals_of b ≤ count
  pub few : count ≤ locals_of b + b.max_stack

-- every path to a place leaves so many cells on the stack
pub record HasDepth (b : Body) (place depth : ℕ) : Type 0 where
  pub every : (slots : List SlotKind) → Path (graph_of b) place slots → length slots ≡ locals_of b + depth

-- ---- rows

-- the rows of a worklist that has settled
pub record AreRows (b : Body) (rows : List (Option (List Seen))) : Type 0 where
  pub count : length rows ≡ length b.steps
  pub fits : All (RowFits (width_of b)) rows
  pub settled : Settled (graph_of b) (inner_of b) (row_in rows)

-- the row of a place, kept or derived
abbrev pub RowIn : Body → List (Option (List Seen)) → ℕ → List Seen → Type 0
RowIn b rows place row = RowAt (graph_of b) (inner_of b) (row_in rows) place row

-- a place has a row of so many slots
pub record HasCount (b : Body) (rows : List (Option (List Seen))) (place count : ℕ) : Type 0 where
  pub row : List Seen
  pub at : RowIn b rows place row
  pub count_is : length row ≡ count

-- how many slots the row of a place has, if it has one
pub record IsCount (b : Body) (rows : List (Option (List Seen))) (place : ℕ) (count : Option ℕ) : Type 0 where
  pub of_row : (row : List Seen) → RowIn b rows place row → count ≡ Some (length row)
  pub has_row : (n : ℕ) → count ≡ Some n → HasCount b rows place n

abbrev pub count_at : List (Option ℕ) → ℕ → Option ℕ
count_at counts place = slice_index_or counts place None

-- the same for all places
pub record AreCounts (b : Body) (rows : List (Option (List Seen))) (counts : List (Option ℕ)) : Type 0 where
  pub same_length : length counts ≡ length b.steps
  pub each : (place : ℕ) → place < length b.steps → IsCount b rows place (count_at counts place)

-- ---- the way back through a block

-- the kinds of a slot that lost a half of a long, or both
abbrev pub lost : Losses → Seen → Seen
lost l s = record {
  int = s.int;
  reference = s.reference;
  long = s.long && not l.head;
  rest = s.rest && not l.rest;
  unused = s.unused || (s.long && l.head) || (s.rest && l.rest);
}

-- what an instruction with this source does to a slot: it comes from another, or has these kinds
abbrev pub traced : Source → Losses → Trail
traced (Keep i) l = Before i l
traced (KeepNoHead i) l = Before i (record { head = true; rest = l.rest })
traced (KeepNoRest i) l = Before i (record { head = l.head; rest = true })
traced (Gives k) l = Here (lost l (only k))

-- Back through the block: a slot of this place, with what it lost since, has the kinds that are asked for.
pub record IsTraced (b : Body) (rows : List (Option (List Seen))) (place slot : ℕ) (l : Losses) (seen : Seen) : Type 0 where
  pub row : List Seen
  pub at : RowIn b rows place row
  pub same : lost l (seen_at row slot) ≡ seen

-- ---- ways into a place

-- marks at the places that a path reaches
pub record AreReached (b : Body) (marks : List Bool) : Type 0 where
  pub same_length : length marks ≡ length b.steps
  pub each : (place : ℕ) → (slice_index_or marks place false ≡ true) ↔ Reached (graph_of b) place

abbrev pub ways_from : ℕ → Step → Bool → ℕ
ways_from to s false = 0
ways_from to s true = count_by (λ t. t == to) (targets_in s)

abbrev pub ways_to : ℕ → List Step → List Bool → ℕ
ways_to to [] marks = 0
ways_to to (s ∷ steps) [] = 0
ways_to to (s ∷ steps) (m ∷ marks) = ways_from to s m + ways_to to steps marks

-- the entry is a way into place 0
abbrev pub entry_ways : ℕ → ℕ
entry_ways to = if to == 0 then 1 else 0

-- How many ways lead into a place from places that a path reaches, those into handlers aside. An instruction has as many
-- ways to a place as it has edges there.
abbrev pub edges_in : Body → List Bool → ℕ → ℕ
edges_in b marks to = entry_ways to + ways_to to b.steps marks

-- the largest number of four bytes
abbrev pub most : ℕ
most = 4294967295

-- how many ways lead into each place
pub record AreWaysIn (b : Body) (counts : List (Option ℕ)) (ways : List ℕ) : Type 0 where
  pub same_length : length ways ≡ length b.steps
  pub each : (place : ℕ) → place < length b.steps → slice_index ways place ≡ min most (edges_in b (map is_some counts) place)

-- ---- all that is kept

pub record AreBlocks (b : Body) (pcs : List ℕ) (starts : List Bool) (rows : List (Option (List Seen))) (counts : List (Option ℕ)) (ways : List ℕ) : Type 0 where
  pub fits : BodyFits b
  pub places : pcs ≡ map step_pc b.steps
  pub marks : AreStarts b starts
  pub settled : AreRows b rows
  pub counted : AreCounts b rows counts
  pub led : AreWaysIn b counts ways

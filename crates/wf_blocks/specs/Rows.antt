-- What the worklist keeps (this project's own): a row for each start of a block that some path reaches, with the kinds
-- that paths leave in each slot. The rows of the other places of a block follow from it.
use Rattle.std.specs.Prelude.{◌≡◌, ℕ, ◌<◌, Bool, true, false, not, ◌||◌, List, [], ◌∷◌, map, length, slice_index_or, Contains, Option, Some, None, ◌==◌, if◌then◌else◌}
use Rattle.wf_operation.specs.declared.slot.SlotKind.{SlotKind}
use Rattle.wf_operation.specs.declared.slot.SlotKind.TheVariants.{Unused}
use Rattle.wf_operation.specs.declared.slot.Source.{Source}
use Rattle.wf_operation.specs.Slots.{named_by}
use Rattle.wf_blocks.specs.declared.seen.Seen.{Seen}
use Rattle.wf_blocks.specs.declared.rows.Grown.{Grown}
use Rattle.wf_blocks.specs.declared.rows.Grown.TheVariants.{Differs, Same, More}
use Rattle.wf_blocks.specs.SeenKinds.{has, only, both, adds, through, all_allowed}
use Rattle.wf_blocks.specs.Graphs.{Edge, Graph, Path, kind_at}

-- the kinds in a slot; nothing stands past the end
abbrev pub seen_at : List Seen → ℕ → Seen
seen_at row i = slice_index_or row i (only Unused)

-- the kinds behind a way of a slot with this source
abbrev pub seen_from : List Seen → Source → Seen
seen_from row s = through s (seen_at row (named_by s))

-- the row behind a way
abbrev pub seen_after : List Seen → List Source → List Seen
seen_after row sources = map (seen_from row) sources

-- the rows that are kept, by place
abbrev pub row_in : List (Option (List Seen)) → ℕ → Option (List Seen)
row_in rows place = slice_index_or rows place None

-- each kind of the first row is in the second
pub record IsWithin (one other : List Seen) : Type 0 where
  pub same_length : length one ≡ length other
  pub each : (i : ℕ) (k : SlotKind) → has (seen_at one i) k ≡ true → has (seen_at other i) k ≡ true

-- a place has a row that holds at least these kinds
pub record HasRow (rows : ℕ → Option (List Seen)) (place : ℕ) (after : List Seen) : Type 0 where
  pub row : List Seen
  pub there : rows place ≡ Some row
  pub within : IsWithin after row

-- rows only get larger
pub record Grows (old new : ℕ → Option (List Seen)) : Type 0 where
  pub each : (place : ℕ) (row : List Seen) → old place ≡ Some row → HasRow new place row

-- the row of a place: kept, or along the way from the place before it in its block
pub data RowAt (g : Graph) (inner : ℕ → Bool) (rows : ℕ → Option (List Seen)) : ℕ → List Seen → Type 0 where
  kept : (place : ℕ) (row : List Seen) → rows place ≡ Some row → RowAt g inner rows place row
  next : (place : ℕ) (row : List Seen) (e : Edge) → RowAt g inner rows place row → Contains (g.edges place (length row)) e
      → inner e.to ≡ true → RowAt g inner rows e.to (seen_after row e.sources)

-- a row whose place has no fault, and whose ways lead to rows that hold what comes along them, or go on in the block
pub record Closed (g : Graph) (inner : ℕ → Bool) (rows : ℕ → Option (List Seen)) (place : ℕ) (row : List Seen) : Type 0 where
  pub sound : g.fails place (length row) ≡ false
  pub met : (i : ℕ) → i < length row → all_allowed (g.wants place (length row) i) (seen_at row i) ≡ true
  pub follows : (e : Edge) → Contains (g.edges place (length row)) e → inner e.to ≡ false → HasRow rows e.to (seen_after row e.sources)

-- the row and all that follow in the block are closed
pub data ClosedFrom (g : Graph) (inner : ℕ → Bool) (rows : ℕ → Option (List Seen)) : ℕ → List Seen → Type 0 where
  closed : (place : ℕ) (row : List Seen) → Closed g inner rows place row
      → ((e : Edge) → Contains (g.edges place (length row)) e → inner e.to ≡ true → ClosedFrom g inner rows e.to (seen_after row e.sources))
      → ClosedFrom g inner rows place row

-- a path leaves this kind in a slot, with so many slots
pub record Leaves (g : Graph) (place count slot : ℕ) (k : SlotKind) : Type 0 where
  pub slots : List SlotKind
  pub path : Path g place slots
  pub count_is : length slots ≡ count
  pub kind_is : kind_at slots slot ≡ k

-- each kind in a row is left by a path
pub record IsLeft (g : Graph) (place : ℕ) (row : List Seen) : Type 0 where
  pub each : (i : ℕ) (k : SlotKind) → has (seen_at row i) k ≡ true → Leaves g place (length row) i k

-- the kinds of the entry, one in each slot
abbrev pub entry_row : Graph → List Seen
entry_row g = map only g.entry

-- All kept rows are closed and left by paths, and hold the entry: nothing is left to be done.
pub record Settled (g : Graph) (inner : ℕ → Bool) (rows : ℕ → Option (List Seen)) : Type 0 where
  pub entry : HasRow rows 0 (entry_row g)
  pub closed_from : (place : ℕ) (row : List Seen) → rows place ≡ Some row → ClosedFrom g inner rows place row
  pub left : (place : ℕ) (row : List Seen) → rows place ≡ Some row → IsLeft g place row
  pub starts : (place : ℕ) (row : List Seen) → rows place ≡ Some row → inner place ≡ false

-- The places inside blocks: the one way to such a place comes from the place before, which has no other way but into
-- handlers.
pub record HasInner (g : Graph) (inner : ℕ → Bool) : Type 0 where
  pub entry : inner 0 ≡ false
  pub one : (p q m n : ℕ) (e f : Edge) → Contains (g.edges p m) e → Contains (g.edges q n) f → e.to ≡ f.to → inner e.to ≡ true → p ≡ q
  pub same : (p n : ℕ) (e f : Edge) → Contains (g.edges p n) e → Contains (g.edges p n) f → inner e.to ≡ true → inner f.to ≡ true → e ≡ f

-- ---- what the worklist does with one row

-- the kinds of two rows together
abbrev pub joined : List Seen → List Seen → List Seen
joined [] after = []
joined (a ∷ row) [] = a ∷ row
joined (a ∷ row) (b ∷ after) = both a b ∷ joined row after

-- whether the second row has a kind that the first doesn't have in that slot
abbrev pub row_adds : List Seen → List Seen → Bool
row_adds [] after = false
row_adds (a ∷ row) [] = false
row_adds (a ∷ row) (b ∷ after) = adds a b || row_adds row after

-- what comes of a row, if there is one, by another that comes along a way
abbrev pub grown : Option (List Seen) → List Seen → Grown
grown None after = More after
grown (Some row) after = if not (length row == length after) then Differs else if row_adds row after then More (joined row after) else Same

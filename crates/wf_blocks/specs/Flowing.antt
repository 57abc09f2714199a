-- What a row that comes along a way does to the kept rows (this project's own).
use Rattle.std.specs.Prelude.{◌≡◌, ℕ, ◌+◌, ◌-◌, ◌*◌, ◌<◌, ◌≤◌, Bool, true, false, List, [], ◌∷◌, length, Contains, All, Option, Some, None, ◌⊎◌}
use Rattle.wf_operation.specs.declared.slot.SlotKind.{SlotKind}
use Rattle.wf_blocks.specs.declared.seen.Seen.{Seen}
use Rattle.wf_blocks.specs.SeenKinds.{has}
use Rattle.wf_blocks.specs.Rows.{seen_at, row_in, HasRow, Grows}

-- a kind in a row was there before, or came along
pub record WasSeen (old : List (Option (List Seen))) (place count slot : ℕ) (k : SlotKind) : Type 0 where
  pub row : List Seen
  pub there : row_in old place ≡ Some row
  pub count_is : length row ≡ count
  pub seen : has (seen_at row slot) k ≡ true

pub record Came (targets : List ℕ) (after : List Seen) (place count slot : ℕ) (k : SlotKind) : Type 0 where
  pub here : Contains targets place
  pub count_is : length after ≡ count
  pub seen : has (seen_at after slot) k ≡ true

-- What came along ways into the rows of these places is in them. Rows only got larger, each that did stands in the
-- queue, and no kind is in them but those that were there or came.
pub record Flowed (targets : List ℕ) (after : List Seen) (old new : List (Option (List Seen))) (waiting waiting' : List ℕ) : Type 0 where
  pub there : (place : ℕ) → Contains targets place → HasRow (row_in new) place after
  pub grows : Grows (row_in old) (row_in new)
  pub kept : (place : ℕ) (row : List Seen) → row_in new place ≡ Some row → (row_in old place ≡ Some row) ⊎ Contains waiting' place
  pub least : (place : ℕ) (row : List Seen) (i : ℕ) (k : SlotKind) → row_in new place ≡ Some row → has (seen_at row i) k ≡ true
      → WasSeen old place (length row) i k ⊎ Came targets after place (length row) i k
  pub places : (place : ℕ) (row : List Seen) → row_in new place ≡ Some row → (row_in old place ≡ None → ⊥) ⊎ Contains targets place
  pub queued : (place : ℕ) → Contains waiting place → Contains waiting' place
  pub same_length : length new ≡ length old
  pub below : (count : ℕ) → All (λ p. p < count) waiting → All (λ p. p < count) targets → All (λ p. p < count) waiting'

-- one of the places has a row of another length
pub record DiffersThere (targets : List ℕ) (after : List Seen) (rows : List (Option (List Seen))) : Type 0 where
  pub to : ℕ
  pub among : Contains targets to
  pub row : List Seen
  pub there : row_in rows to ≡ Some row
  pub differs : length row ≡ length after → ⊥

-- ---- why the worklist ends

-- a row has at most so many slots
abbrev pub RowFits : ℕ → Option (List Seen) → Type 0
RowFits width None = Unit {0}
RowFits width (Some row) = length row ≤ width

abbrev pub flag : Bool → ℕ
flag true = 1
flag false = 0

-- how many kinds are in a slot
abbrev pub kinds_in : Seen → ℕ
kinds_in s = flag s.int + flag s.reference + flag s.long + flag s.rest + flag s.unused

-- how many kinds are in a row
abbrev pub height : List Seen → ℕ
height [] = 0
height (s ∷ row) = kinds_in s + height row

-- how many more kinds a place may get
abbrev pub left_of : ℕ → Option (List Seen) → ℕ
left_of width None = 5 * width + 1
left_of width (Some row) = 5 * width - height row

abbrev pub left_in : ℕ → List (Option (List Seen)) → ℕ
left_in width [] = 0
left_in width (row ∷ rows) = left_of width row + left_in width rows

-- a place that stands once more in the queue has a row that got larger
pub record IsLess (width : ℕ) (old new : List (Option (List Seen))) (waiting waiting' : List ℕ) : Type 0 where
  pub fits : All (RowFits width) new
  pub less : 2 * left_in width new + length waiting' ≤ 2 * left_in width old + length waiting

-- How far the worklist has come (this project's own).
use Rattle.std.specs.Prelude.{◌≡◌, ℕ, ◌+◌, ◌<◌, ◌&&◌, Bool, true, false, List, length, Contains, Option, Some, ◌⊎◌}
use Rattle.wf_operation.specs.declared.effect.Effect.{Effect}
use Rattle.wf_operation.specs.Effects.{wanted}
use Rattle.wf_blocks.specs.declared.seen.Seen.{Seen}
use Rattle.wf_blocks.specs.declared.walk.Stepped.{Stepped}
use Rattle.wf_blocks.specs.declared.walk.Stepped.TheVariants.{Bad, Done, On}
use Rattle.wf_blocks.specs.declared.body.Body.{Body}
use Rattle.wf_blocks.specs.Bodies.{locals_of, sources_at, targets_at, falls_only, inner_of}
use Rattle.wf_blocks.specs.SeenKinds.{all_allowed}
use Rattle.wf_blocks.specs.Graphs.{Graph, BadPaths, caught_sources}
use Rattle.wf_blocks.specs.Rows.{seen_at, seen_after, row_in, HasRow, Grows, ClosedFrom, IsLeft, entry_row}

-- Each kept row is left by paths, and stands in the queue or is closed.
pub record Working (g : Graph) (inner : ℕ → Bool) (rows : List (Option (List Seen))) (waiting : List ℕ) : Type 0 where
  pub entry : HasRow (row_in rows) 0 (entry_row g)
  pub starts : (place : ℕ) (row : List Seen) → row_in rows place ≡ Some row → inner place ≡ false
  pub left : (place : ℕ) (row : List Seen) → row_in rows place ≡ Some row → IsLeft g place row
  pub either : (place : ℕ) (row : List Seen) → row_in rows place ≡ Some row → Contains waiting place ⊎ ClosedFrom g inner (row_in rows) place row

-- a row that stands neither in the queue nor is closed is that of the block which is visited
pub record IsVisited (place : ℕ) (row : List Seen) (first : ℕ) (first_row : List Seen) : Type 0 where
  pub place_is : place ≡ first
  pub row_is : row ≡ first_row

-- The block from the place `first` on is visited, where this row stood. The visit has come to a place inside it; the
-- block is closed once the rest from there on is.
pub record Walking (g : Graph) (inner : ℕ → Bool) (rows : List (Option (List Seen))) (waiting : List ℕ)
    (first : ℕ) (first_row : List Seen) (place : ℕ) (row : List Seen) : Type 0 where
  pub entry : HasRow (row_in rows) 0 (entry_row g)
  pub starts : (p : ℕ) (r : List Seen) → row_in rows p ≡ Some r → inner p ≡ false
  pub left : (p : ℕ) (r : List Seen) → row_in rows p ≡ Some r → IsLeft g p r
  pub either : (p : ℕ) (r : List Seen) → row_in rows p ≡ Some r → Contains waiting p ⊎ (ClosedFrom g inner (row_in rows) p r ⊎ IsVisited p r first first_row)
  pub here : IsLeft g place row
  pub rest : (later : ℕ → Option (List Seen)) → Grows (row_in rows) later → ClosedFrom g inner later place row → ClosedFrom g inner later first first_row

-- what a step of the visit leaves
abbrev pub StepMeans : (g : Graph) → (ℕ → Bool) → List (Option (List Seen)) → List ℕ → ℕ → List Seen → ℕ → Stepped → Type 0
StepMeans g inner rows waiting first first_row place Bad = BadPaths g
StepMeans g inner rows waiting first first_row place Done = Working g inner rows waiting
StepMeans g inner rows waiting first first_row place (On after) = Walking g inner rows waiting first first_row (place + 1) after

-- the first two things that a closed row has
pub record IsSound (g : Graph) (place : ℕ) (row : List Seen) : Type 0 where
  pub sound : g.fails place (length row) ≡ false
  pub met : (i : ℕ) → i < length row → all_allowed (g.wants place (length row) i) (seen_at row i) ≡ true

-- one of them is lacking
pub data IsUnsound (g : Graph) (place : ℕ) (row : List Seen) : Type 0 where
  fails_there : g.fails place (length row) ≡ true → IsUnsound g place row
  unmet_there : (i : ℕ) → i < length row → all_allowed (g.wants place (length row) i) (seen_at row i) ≡ false → IsUnsound g place row

-- the slots below a place of the row hold only kinds that an instruction wants there
abbrev pub IsMet : Effect → List Seen → ℕ → Type 0
IsMet e row end = (i : ℕ) → i < end → all_allowed (wanted e (length row) i) (seen_at row i) ≡ true

-- a slot of the row holds another kind
pub record LacksOne (e : Effect) (row : List Seen) : Type 0 where
  pub slot : ℕ
  pub there : slot < length row
  pub lacks : all_allowed (wanted e (length row) slot) (seen_at row slot) ≡ false

-- ---- the rows behind a place

abbrev pub row_after : Body → ℕ → List Seen → List Seen
row_after b place row = seen_after row (sources_at b place (length row))

abbrev pub row_thrown : Body → List Seen → List Seen
row_thrown b row = seen_after row (caught_sources (locals_of b))

-- whether a block goes on behind a place
abbrev pub block_goes_on : Body → ℕ → Bool
block_goes_on b place = falls_only place (targets_at b place) && inner_of b (place + 1)

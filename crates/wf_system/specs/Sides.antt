-- What a side table says: elements, rows of types under a class, keys, and the candidates that types pick at a site.
use Rattle.std.specs.Prelude.{ℕ, ◌<◌, ◌≤◌, ◌==◌, if◌then◌else◌, List, [], ◌∷◌, length, Option, Some, None, slice_index, slice_index_or}
use Rattle.wf_system.specs.declared.pick.Pick.{Pick}

-- the candidate of the first entry of the type
abbrev pub pick_of : List Pick → ℕ → Option ℕ
pick_of [] c = None
pick_of (p ∷ rest) c = (if p.t.0 == c then Some p.candidate else pick_of rest c)

-- a table has each type once, in order
pub record Ascends (table : List Pick) : Type 0 where
  pub each : (i j : ℕ) (d : Pick) → i < j → j < length table → (slice_index_or table i d).t.0 < (slice_index_or table j d).t.0

-- the entries before a place are of lesser types, and those from it on aren't
pub record StartsAt (table : List Pick) (c place : ℕ) : Type 0 where
  pub inside : place ≤ length table
  pub before : (i : ℕ) (d : Pick) → i < place → (slice_index_or table i d).t.0 < c
  pub from : (i : ℕ) (d : Pick) → place ≤ i → i < length table → c ≤ (slice_index_or table i d).t.0

-- the table of a site
abbrev pub table_of : List (List Pick) → List ℕ → ℕ → List Pick
table_of tables sites site = slice_index_or tables (slice_index sites site) []

-- each site has a table
pub record HasTables (tables : List (List Pick)) (sites : List ℕ) : Type 0 where
  pub each : (site : ℕ) → site < length sites → slice_index sites site < length tables
  pub ascend : (i : ℕ) → i < length tables → Ascends (slice_index_or tables i [])

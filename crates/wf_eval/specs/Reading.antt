-- The rows of words that are written as a function from an index.
use Rattle.std.specs.Prelude.{◌≡◌, ℕ, ◌+◌, ◌^◌, ◌<◌, ◌≤◌, List, length, nat_lt, if◌then◌else◌, Option, None, slice_index_or, []}
use Rattle.wf_base.specs.declared.ids.NodeId.{NodeId}
use Rattle.wf_system.specs.declared.node_shape.NodeShape.{NodeShape}
use Rattle.wf_system.specs.declared.side.Side.{Side}
use Rattle.wf_system.specs.Shapes.{shape_at, all_words}

-- the row of a node that has its words at a place
abbrev pub span_row : (ℕ → ℕ) → NodeShape → ℕ → ℕ
span_row x at k = (if nat_lt k at.words then x (at.first_word + k) else 0)

-- the assignment that words are: to each node its row
abbrev pub rows_of : List NodeShape → (ℕ → ℕ) → NodeId → ℕ → ℕ
rows_of nodes x n = span_row x (shape_at nodes n.0)

-- the words of the place are among those of all nodes
abbrev pub IsInside : List NodeShape → NodeShape → Type 0
IsInside nodes at = at.first_word + at.words ≤ all_words nodes

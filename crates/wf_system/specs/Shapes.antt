-- The layout of the nodes' words: one node after another, from word 0 on.
use Rattle.std.specs.Prelude.{◌≡◌, ℕ, zero, suc, ◌+◌, ◌^◌, ◌<◌, List, length, slice_index, slice_index_or, nat_lt, if◌then◌else◌}
use Rattle.wf_lattice.specs.declared.kind.NodeKind.TheVariants.{Token}
use Rattle.wf_system.specs.declared.node_shape.NodeShape.{NodeShape}

-- a node that isn't there: one word, past all others
abbrev pub no_node : NodeShape
no_node = record { kind = Token; first_word = 2 ^ 32; words = 1 }

abbrev pub shape_at : List NodeShape → ℕ → NodeShape
shape_at nodes n = slice_index_or nodes n no_node

-- the words of the first n nodes
abbrev pub words_before : List NodeShape → ℕ → ℕ
words_before nodes zero = 0
words_before nodes (suc n) = words_before nodes n + (shape_at nodes n).words

-- the words of all nodes
abbrev pub all_words : List NodeShape → ℕ
all_words nodes = words_before nodes (length nodes)

-- each node has a word, their words follow each other from word 0, and are fewer than 2^32
pub record IsLaidOut (nodes : List NodeShape) : Type 0 where
  pub each_first : (n : ℕ) → n < length nodes → (shape_at nodes n).first_word ≡ words_before nodes n
  pub each_some : (n : ℕ) → n < length nodes → 0 < (shape_at nodes n).words
  pub few : all_words nodes < 2 ^ 32

-- the row of a node, cut out of all words
abbrev pub row_at : List NodeShape → List ℕ → ℕ → ℕ → ℕ
row_at nodes words n k = (if nat_lt k (shape_at nodes n).words then slice_index words ((shape_at nodes n).first_word + k) else 0)

-- What a plan says: the words of a target, once it is known which values are saturated.
use Rattle.std.specs.Prelude.{◌≡◌, ℕ, zero, suc, ◌+◌, ◌-◌, ◌*◌, ◌<◌, ◌≤◌, Bool, ◌&&◌, ◌||◌, if◌then◌else◌, List, length, Option, Some, None, slice_index_or, [], bit_and, bit_or}
use Rattle.std.specs.Int.{bit_not, w64}
use Rattle.wf_base.specs.declared.ids.NodeId.{NodeId}
use Rattle.wf_lattice.specs.Words.{IsWithin, words_of, has_bit, has_type, types_of, flags_of, one_word}
use Rattle.wf_system.specs.declared.node_shape.NodeShape.{NodeShape}
use Rattle.wf_system.specs.declared.side.Side.{Side}
use Rattle.wf_system.specs.Shapes.{shape_at}
use Rattle.wf_system.specs.Sides.{pick_of, table_of}
use Rattle.wf_system.specs.Rows.{type_row, row_where}
use Rattle.wf_system.specs.declared.inequality.ValueOp.{ValueOp}
use Rattle.wf_system.specs.System.{is_candidate, some_type, row_if, elem_row, given}
use Rattle.wf_system.specs.Bodies.{tables_of}
use Rattle.wf_eval.specs.declared.plan.Meaning.{Meaning}
use Rattle.wf_eval.specs.declared.plan.Source.{Source}
use Rattle.wf_eval.specs.declared.plan.Source.TheVariants.{Made, Meant, Held}
use Rattle.wf_eval.specs.declared.plan.Mask.{Mask}
use Rattle.wf_eval.specs.declared.plan.Mask.TheVariants.{All, Under, NotUnder, Picking, AlsoIn}
use Rattle.wf_eval.specs.declared.plan.TypeSet.{TypeSet}
use Rattle.wf_eval.specs.declared.plan.Plan.{Plan}
use Rattle.wf_eval.specs.declared.plan.Plan.TheVariants.{First, Row, OneType, IfMade, Types, Candidates, Elements}
use Rattle.wf_eval.specs.Said.{Seen, Said}
use Rattle.wf_eval.specs.Reading.{span_row, rows_of, IsInside}

-- the row of a meaning, flags and all
abbrev pub meant_row : Meaning → (ℕ → ℕ) → ℕ → ℕ
meant_row m x k = (if m.saturated then span_row x m.made k else bit_and (span_row x m.of k) (span_row x m.made k))

abbrev pub source_row : Source → (ℕ → ℕ) → ℕ → ℕ
source_row (Made at) x = span_row x at
source_row (Meant m) x = meant_row m x
source_row (Held at) x = span_row x at

-- how many words it has
abbrev pub source_words : Source → ℕ
source_words (Made at) = at.words
source_words (Meant m) = m.made.words
source_words (Held at) = at.words

-- the row of the types that pick a candidate at a site
abbrev pub picking_row : Side → ℕ → ℕ → ℕ → ℕ
picking_row side site j = row_where (λ b. is_candidate (pick_of (table_of side.tables side.sites site) (b - 1)) j)

-- what a mask leaves of a word
abbrev pub masked : Side → Mask → (ℕ → ℕ) → ℕ → ℕ → ℕ
masked side All x k word = word
masked side (Under u) x k word = bit_and word (words_of (slice_index_or side.masks u.0 []) k)
masked side (NotUnder u) x k word = bit_and word (bit_not w64 (words_of (slice_index_or side.masks u.0 []) k))
masked side (Picking site j) x k word = bit_and word (picking_row side site j k)
masked side (AlsoIn m) x k word = bit_and word (types_of (meant_row m x) k)

-- the row of a set
abbrev pub set_row : Side → TypeSet → (ℕ → ℕ) → ℕ → ℕ
set_row side set x k = (if set.there then masked side set.mask x k (types_of (source_row set.from x) k) else 0)

-- a meaning has the type, or null for type 0
abbrev pub means_if : Bool → (ℕ → ℕ) → (ℕ → ℕ) → ℕ → Bool
means_if saturated v inst zero = saturated || has_bit v 1
means_if saturated v inst (suc t) = (saturated || has_type v (suc t)) && has_type inst (suc t)

abbrev pub has_meaning : Meaning → (ℕ → ℕ) → ℕ → Bool
has_meaning m x c = means_if m.saturated (span_row x m.of) (span_row x m.made) c

-- the row of the candidates that types of a meaning pick
abbrev pub candidates_row : Side → Meaning → ℕ → (ℕ → ℕ) → ℕ → ℕ
candidates_row side m site x = row_where (λ j. some_type (length side.elems) (λ c. has_meaning m x c && is_candidate (pick_of (table_of side.tables side.sites site) c) j))

-- the elements of the array types of a meaning, of those below a number
abbrev pub elements_row : List NodeShape → Side → Meaning → (ℕ → ℕ) → ℕ → ℕ → ℕ
elements_row nodes side m x zero k = 0
elements_row nodes side m x (suc c) k = bit_or (elements_row nodes side m x c k) (row_if (has_meaning m x c) (elem_row (rows_of nodes x) (slice_index_or side.elems c None)) k)

-- the row that a plan gives
abbrev pub planned : List NodeShape → Side → Plan → (ℕ → ℕ) → ℕ → ℕ
planned nodes side (First word) x k = one_word word k
planned nodes side (Row at) x k = span_row x at k
planned nodes side (OneType c) x k = type_row c.0 k
planned nodes side (IfMade c made) x k = bit_and (type_row c.0 k) (span_row x made k)
planned nodes side (Types set over null) x k = bit_or (set_row side set x k) (flags_of over null k)
planned nodes side (Candidates m site) x k = candidates_row side m site x k
planned nodes side (Elements m) x k = elements_row nodes side m x (length side.elems) k

-- ---- what a plan speaks of is there

pub record MeaningFits (nodes : List NodeShape) (m : Meaning) : Type 0 where
  pub of : IsInside nodes m.of
  pub made : IsInside nodes m.made
  pub same : m.of.words ≡ m.made.words

abbrev pub SourceFits : List NodeShape → Source → Type 0
SourceFits nodes (Made at) = IsInside nodes at
SourceFits nodes (Meant m) = MeaningFits nodes m
SourceFits nodes (Held at) = IsInside nodes at

abbrev pub MaskFits : List NodeShape → Side → ℕ → Mask → Type 0
MaskFits nodes side n All = Unit {0}
MaskFits nodes side n (Under u) = u.0 < length side.masks
MaskFits nodes side n (NotUnder u) = u.0 < length side.masks
MaskFits nodes side n (Picking site j) = site < length side.sites
MaskFits nodes side n (AlsoIn m) = MeaningFits nodes m × (m.made.words ≡ n)

pub record SetFits (nodes : List NodeShape) (side : Side) (set : TypeSet) : Type 0 where
  pub from : SourceFits nodes set.from
  pub words : source_words set.from ≡ set.words
  pub mask : MaskFits nodes side set.words set.mask

-- each type has a bit in the meaning
pub record TypesFit (nodes : List NodeShape) (side : Side) (m : Meaning) : Type 0 where
  pub meaning : MeaningFits nodes m
  pub bits : length side.elems + 1 ≤ 64 * m.made.words

-- the elements of each type have a node of at least n words
pub record ElementsFit (nodes : List NodeShape) (side : Side) (n : ℕ) : Type 0 where
  pub each : (c : ℕ) (at : NodeId) → slice_index_or side.elems c None ≡ Some at → (at.0 < length nodes) × (n ≤ (shape_at nodes at.0).words)

-- the plan gives words of a target of n words
abbrev pub PlanFits : List NodeShape → Side → ℕ → Plan → Type 0
PlanFits nodes side n (First word) = Unit {0}
PlanFits nodes side n (Row at) = IsInside nodes at × (n ≤ at.words)
PlanFits nodes side n (OneType c) = Unit {0}
PlanFits nodes side n (IfMade c made) = IsInside nodes made × (n ≤ made.words)
PlanFits nodes side n (Types set over null) = SetFits nodes side set × (n ≤ set.words)
PlanFits nodes side n (Candidates m site) = TypesFit nodes side m × (site < length side.sites)
PlanFits nodes side n (Elements m) = TypesFit nodes side m × ElementsFit nodes side n

-- the plan of a value lies between what the value is in lower and in upper bounds of the answers
abbrev pub SaidPlan : List NodeShape → ℕ → Side → ValueOp NodeId → NodeId → Seen → Seen → Plan → Type 0
SaidPlan nodes most side value to old new p = Said
    (λ x. IsWithin (given (tables_of nodes most side) value (rows_of nodes x) to) (planned nodes side p x))
    (λ x. IsWithin (planned nodes side p x) (given (tables_of nodes most side) value (rows_of nodes x) to)) old new

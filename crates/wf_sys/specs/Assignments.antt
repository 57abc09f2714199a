-- Systems over nodes that are numbered. An assignment to the nodes below some number is the list of their
-- values; at every other node it is empty.
use Rattle.std.specs.Prelude.{◌≡◌, ◌<◌, ℕ, List, All, slice_index_or}
use Rattle.wf_sys.specs.declared.flow.Flow.{Flow}
use Rattle.wf_sys.specs.declared.flow.Flow.TheVariants.{Empty}
use Rattle.wf_sys.specs.declared.inequality.Inequality.{Inequality}

-- the value of a node
abbrev pub value_at : List Flow → ℕ → Flow
value_at values n = slice_index_or values n Empty

-- each node's value is a seed
abbrev pub IsSeedOf : List Flow → ℕ → Flow → Type 0
IsSeedOf values n v = v ≡ value_at values n

-- the targets of the inequalities are below the number
abbrev pub TargetsFit : ℕ → List (Inequality ℕ) → Type 0
TargetsFit count system = All (λ (q : Inequality ℕ). q.target < count) system

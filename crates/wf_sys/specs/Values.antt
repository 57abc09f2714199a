-- Values of flows and their order: empty is below every value, any is above every value, and of the others
-- each is below itself. A flow of one kind never has a value of another, so what stands above a token and
-- an int together is never met.
use Rattle.std.specs.Prelude.{◌≡◌, ℕ, Bool, true, false, cond, List}
use Rattle.std.specs.Ordering.{int_eq}
use Rattle.wf_sys.specs.declared.flow.Flow.{Flow}
use Rattle.wf_sys.specs.declared.flow.Flow.TheVariants.{Empty, Set, Is, Any}

infixl 20 ◌⊑◌
abbrev pub ◌⊑◌ : Flow → Flow → Type 0
Empty ⊑ y = Unit {0}
Set ⊑ Empty = ⊥
Set ⊑ Set = Unit {0}
Set ⊑ (Is c) = ⊥
Set ⊑ Any = Unit {0}
(Is c) ⊑ Empty = ⊥
(Is c) ⊑ Set = ⊥
(Is c) ⊑ (Is d) = c ≡ d
(Is c) ⊑ Any = Unit {0}
Any ⊑ Empty = ⊥
Any ⊑ Set = ⊥
Any ⊑ (Is c) = ⊥
Any ⊑ Any = Unit {0}

-- whether a value is below another
abbrev pub is_below : Flow → Flow → Bool
is_below Empty y = true
is_below Set Empty = false
is_below Set Set = true
is_below Set (Is c) = false
is_below Set Any = true
is_below (Is c) Empty = false
is_below (Is c) Set = false
is_below (Is c) (Is d) = int_eq c d
is_below (Is c) Any = true
is_below Any Empty = false
is_below Any Set = false
is_below Any (Is c) = false
is_below Any Any = true

-- the least value that both are below
abbrev pub join : Flow → Flow → Flow
join Empty y = y
join Set Empty = Set
join Set Set = Set
join Set (Is c) = Any
join Set Any = Any
join (Is c) Empty = Is c
join (Is c) Set = Any
join (Is c) (Is d) = cond (int_eq c d) (Is c) Any
join (Is c) Any = Any
join Any y = Any

-- whether nothing flows there
abbrev pub is_empty : Flow → Bool
is_empty Empty = true
is_empty Set = false
is_empty (Is c) = false
is_empty Any = false

-- something flows there
abbrev pub IsNonEmpty : Flow → Type 0
IsNonEmpty Empty = ⊥
IsNonEmpty Set = Unit {0}
IsNonEmpty (Is c) = Unit {0}
IsNonEmpty Any = Unit {0}

-- A value holds a type, by its name. No value of this form does.
abbrev pub HoldsType : Flow → List ℕ → Type 0
HoldsType Empty name = ⊥
HoldsType Set name = ⊥
HoldsType (Is c) name = ⊥
HoldsType Any name = ⊥

-- Systems of inequalities over nodes of any name, what an inequality says in an assignment, and least solutions
-- (this project's own, after SkipFlow, CGO 2025). An assignment gives each node the row of its value.
use Rattle.std.specs.Prelude.{◌≡◌, ℕ, zero, suc, ◌-◌, ◌^◌, Bool, true, false, not, ◌&&◌, ◌||◌, ◌==◌, if◌then◌else◌, ℤ, List, Option, Some, None, bit_or}
use Rattle.wf_lattice.specs.declared.kind.NodeKind.{NodeKind}
use Rattle.wf_lattice.specs.declared.kind.NodeKind.TheVariants as kinds
use Rattle.wf_lattice.specs.declared.view.Nulls.TheVariants.{Keep, Drop}
use Rattle.wf_lattice.specs.Words.{has_bit, has_type, is_empty, types_of, both, one_word, nothing}
use Rattle.wf_lattice.specs.Ints.{constant_word, refined_word, not_among_word}
use Rattle.wf_lattice.specs.Order.{Receives}
use Rattle.wf_lattice.specs.Meaning.{means}
use Rattle.wf_lattice.specs.Filters.{filtered, no_null, only_null, equal_refs, unequal_refs, all_under, some_under, tested_word, null_word}
use Rattle.wf_system.specs.declared.inequality.Guard.{Guard}
use Rattle.wf_system.specs.declared.inequality.Guard.TheVariants.{Always, NonEmpty, HasType, HasUnder, Linked}
use Rattle.wf_system.specs.declared.inequality.ValueOp.{ValueOp}
use Rattle.wf_system.specs.declared.inequality.ValueOp.TheVariants.{Token, IntIs, AnyInt, AnyLong, NullRef, OneType, Copy, IntRefine, IntRefineBy, NotIn, RefEq, RefNe, OnlyNull, NoNull, Under, AllUnder, SomeUnder, Picked, Picks, Tested, ElementsOf, IfHolds, IfNull}
use Rattle.wf_system.specs.declared.inequality.Inequality.{Inequality}
use Rattle.wf_system.specs.Rows.{type_row, row_where}

-- What inequalities look up besides the values of nodes.
pub record Tables (N : Type 0) : Type 0 where
  -- the threshold: references with more types than this are saturated
  pub most : ℕ
  -- whether a node is there, its kind, and the number of its words
  pub there : N → Bool
  pub kind : N → NodeKind
  pub words : N → ℕ
  -- the node of the types that are made
  pub inst : N
  -- types have numbers below this one
  pub types : ℕ
  -- the node of the elements of an array type, where it has one
  pub elem : ℕ → Option N
  -- classes have numbers below this one, and the row of the types under a class
  pub targets : ℕ
  pub mask : ℕ → ℕ → ℕ
  -- switches have numbers below this one, and the keys of a switch
  pub switches : ℕ
  pub keys : ℕ → List ℤ
  -- call sites have numbers below this one, and the candidate that a type picks at a call site, where it picks one
  pub sites : ℕ
  pub picks : ℕ → ℕ → Option ℕ

-- the number of words of a row of types
abbrev pub ref_words : {N : Type 0} → Tables N → ℕ
ref_words t = t.words t.inst

-- the second value of a node is at least the first
abbrev pub AtLeast : {N : Type 0} → Tables N → N → (ℕ → ℕ) → (ℕ → ℕ) → Type 0
AtLeast t n f v = Receives t.most (t.words n) (t.kind n) f v

-- the value of each node is at most that of the other assignment
abbrev pub IsBelow : {N : Type 0} → Tables N → (N → ℕ → ℕ) → (N → ℕ → ℕ) → Type 0
IsBelow {N} t x y = (n : N) → AtLeast t n (x n) (y n)

-- ---- guards

abbrev pub guard_holds : {N : Type 0} → Tables N → Guard N → (N → ℕ → ℕ) → Bool
guard_holds t Always x = true
guard_holds t (NonEmpty n) x = not (is_empty (t.words n) (x n))
-- that type is made
guard_holds t (HasType c) x = has_type (x t.inst) c.0
-- some type under the class is made
guard_holds t (HasUnder u) x = not (is_empty (ref_words t) (both (types_of (x t.inst)) (t.mask u.0)))
-- that candidate is in the node
guard_holds t (Linked n j) x = has_bit (x n) j

-- ---- values

-- the meaning of a node of references has the type, or null for type 0
abbrev pub meaning_has : {N : Type 0} → Tables N → (N → ℕ → ℕ) → N → ℕ → Bool
meaning_has t x n c = means t.most (ref_words t) (x n) (x t.inst) c

-- one type: all of it into the types that are made, and elsewhere only what is made
abbrev pub one_type : NodeKind → ℕ → (ℕ → ℕ) → ℕ → ℕ
one_type kinds.Inst c inst = type_row c
one_type kinds.Token c inst = both (type_row c) inst
one_type kinds.Int c inst = both (type_row c) inst
one_type kinds.Long c inst = both (type_row c) inst
one_type kinds.Refs c inst = both (type_row c) inst
one_type kinds.Links c inst = both (type_row c) inst

-- the row, under a condition
abbrev pub row_if : Bool → (ℕ → ℕ) → ℕ → ℕ
row_if holds f k = (if holds then f k else 0)

-- whether the candidate is this one
abbrev pub is_candidate : Option ℕ → ℕ → Bool
is_candidate None j = false
is_candidate (Some i) j = i == j

-- the row of the types that pick the candidate at the site
abbrev pub picked_mask : {N : Type 0} → Tables N → ℕ → ℕ → ℕ → ℕ
picked_mask t site j = row_where (λ b. is_candidate (t.picks site (b - 1)) j)

-- some type below the number, other than null, passes the test
abbrev pub some_type : ℕ → (ℕ → Bool) → Bool
some_type zero P = false
some_type (suc zero) P = false
some_type (suc (suc c)) P = some_type (suc c) P || P (suc c)

-- the row of the candidates that types of the meaning pick
abbrev pub picked_row : {N : Type 0} → Tables N → (N → ℕ → ℕ) → N → ℕ → ℕ → ℕ
picked_row t x n site = row_where (λ j. some_type t.types (λ c. meaning_has t x n c && is_candidate (t.picks site c) j))

-- the row of the elements of an array type, where it has a node of them
abbrev pub elem_row : {N : Type 0} → (N → ℕ → ℕ) → Option N → ℕ → ℕ
elem_row x None = nothing
elem_row x (Some n) = x n

-- the join of the elements of the array types of a meaning, of those below the number
abbrev pub elements_below : {N : Type 0} → Tables N → (N → ℕ → ℕ) → N → ℕ → ℕ → ℕ
elements_below t x n zero k = 0
elements_below t x n (suc c) k = bit_or (elements_below t x n c k) (row_if (meaning_has t x n c) (elem_row x (t.elem c)) k)

-- the row that an inequality joins into a node
abbrev pub given : {N : Type 0} → Tables N → ValueOp N → (N → ℕ → ℕ) → N → ℕ → ℕ
given t Token x to = one_word 1
given t (IntIs c) x to = one_word (constant_word c)
given t AnyInt x to = one_word (2 ^ 64 - 1)
given t AnyLong x to = one_word 1
given t NullRef x to = type_row 0
-- a type flows into a node of references only once it is made
given t (OneType c) x to = one_type (t.kind to) c.0 (x t.inst)
given t (Copy n) x to = x n
given t (IntRefine cmp a b) x to = one_word (refined_word cmp (x a 0) (x b 0))
given t (IntRefineBy cmp a j) x to = one_word (refined_word cmp (x a 0) (constant_word j))
given t (NotIn a place) x to = one_word (not_among_word (t.keys place) (x a 0))
given t (RefEq a b) x to = equal_refs t.most (ref_words t) (x a) (x b) (x t.inst)
given t (RefNe a b) x to = unequal_refs t.most (ref_words t) (x a) (x b) (x t.inst)
given t (OnlyNull a) x to = only_null t.most (ref_words t) (x a)
given t (NoNull a) x to = no_null t.most (ref_words t) (x a) (x t.inst)
given t (Under a u) x to = filtered t.most (ref_words t) (x a) (x t.inst) (t.mask u.0) Keep
given t (AllUnder u) x to = all_under t.most (ref_words t) (x t.inst) (t.mask u.0)
given t (SomeUnder u) x to = some_under t.most (ref_words t) (x t.inst) (t.mask u.0)
given t (Picked a site j) x to = filtered t.most (ref_words t) (x a) (x t.inst) (picked_mask t site j) Drop
given t (Picks a site) x to = picked_row t x a site
given t (Tested a u) x to = one_word (tested_word t.most (ref_words t) (x a) (x t.inst) (t.mask u.0))
given t (ElementsOf a) x to = elements_below t x a t.types
given t (IfHolds a c b u) x to = row_if (meaning_has t x a c.0) (filtered t.most (ref_words t) (x b) (x t.inst) (t.mask u.0) Keep)
given t (IfNull a) x to = one_word (null_word t.most (ref_words t) (x a))

-- ---- solutions

-- where the guard holds, the target is at least the value
abbrev pub IsMet : {N : Type 0} → Tables N → Inequality N → (N → ℕ → ℕ) → Type 0
IsMet t q x = guard_holds t q.guard x ≡ true → AtLeast t q.target (given t q.value x q.target) (x q.target)

-- The assignment solves the system above the seeds: it is at least each seed, and meets each inequality.
pub record Solves {N : Type 0} (t : Tables N) (System : Inequality N → Type 0) (seeds x : N → ℕ → ℕ) : Type 0 where
  pub above : IsBelow t seeds x
  pub meets : (q : Inequality N) → System q → IsMet t q x

-- It solves, and is below every assignment that does.
pub record Least {N : Type 0} (t : Tables N) (System : Inequality N → Type 0) (seeds x : N → ℕ → ℕ) : Type 0 where
  pub solves : Solves t System seeds x
  pub least : (y : N → ℕ → ℕ) → Solves t System seeds y → IsBelow t x y

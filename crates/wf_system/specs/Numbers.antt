-- Names of nodes and their numbers: an inequality with numbers for names, and tables that say the same of both.
use Rattle.std.specs.Prelude.{◌≡◌, ℕ, List, Contains, Option, Some, None, MatchOption, option_map, option_and_then}
use Rattle.wf_system.specs.declared.inequality.Guard.{Guard}
use Rattle.wf_system.specs.declared.inequality.Guard.TheVariants.{Always, NonEmpty, HasType, HasUnder, Linked}
use Rattle.wf_system.specs.declared.inequality.ValueOp.{ValueOp}
use Rattle.wf_system.specs.declared.inequality.ValueOp.TheVariants.{Token, IntIs, AnyInt, AnyLong, NullRef, OneType, Copy, IntRefine, IntRefineBy, NotIn, RefEq, RefNe, OnlyNull, NoNull, Under, AllUnder, SomeUnder, Picked, Picks, Tested, ElementsOf, IfHolds, IfNull}
use Rattle.wf_system.specs.declared.inequality.Inequality.{Inequality}
use Rattle.wf_lattice.specs.Words.{nothing}
use Rattle.wf_system.specs.System.{Tables}

-- Numbers of the nodes that are there: a number is that of its name, and of no other.
pub record Numbering (N K : Type 0) : Type 0 where
  pub number : N → Option K
  pub name : K → Option N
  pub back : (n : N) (k : K) → number n ≡ Some k → name k ≡ Some n
  pub forth : (k : K) (n : N) → name k ≡ Some n → number n ≡ Some k

-- both nodes, where both have numbers
abbrev pub two : {K A : Type 0} → (K → K → A) → Option K → Option K → Option A
two f i j = option_and_then (λ a. option_map (f a) j) i

-- a guard with numbers for names, where its node is there
abbrev pub renamed_guard : {N K : Type 0} → (N → Option K) → Guard N → Option (Guard K)
renamed_guard number Always = Some Always
renamed_guard number (NonEmpty n) = option_map (λ k. NonEmpty k) (number n)
renamed_guard number (HasType c) = Some (HasType c)
renamed_guard number (HasUnder u) = Some (HasUnder u)
renamed_guard number (Linked n j) = option_map (λ k. Linked k j) (number n)

-- a value with numbers for names, where all its nodes are there
abbrev pub renamed_value : {N K : Type 0} → (N → Option K) → ValueOp N → Option (ValueOp K)
renamed_value number Token = Some Token
renamed_value number (IntIs c) = Some (IntIs c)
renamed_value number AnyInt = Some AnyInt
renamed_value number AnyLong = Some AnyLong
renamed_value number NullRef = Some NullRef
renamed_value number (OneType c) = Some (OneType c)
renamed_value number (Copy n) = option_map (λ k. Copy k) (number n)
renamed_value number (IntRefine cmp a b) = two (λ i j. IntRefine cmp i j) (number a) (number b)
renamed_value number (IntRefineBy cmp a c) = option_map (λ k. IntRefineBy cmp k c) (number a)
renamed_value number (NotIn a place) = option_map (λ k. NotIn k place) (number a)
renamed_value number (RefEq a b) = two (λ i j. RefEq i j) (number a) (number b)
renamed_value number (RefNe a b) = two (λ i j. RefNe i j) (number a) (number b)
renamed_value number (OnlyNull a) = option_map (λ k. OnlyNull k) (number a)
renamed_value number (NoNull a) = option_map (λ k. NoNull k) (number a)
renamed_value number (Under a u) = option_map (λ k. Under k u) (number a)
renamed_value number (AllUnder u) = Some (AllUnder u)
renamed_value number (SomeUnder u) = Some (SomeUnder u)
renamed_value number (Picked a site j) = option_map (λ k. Picked k site j) (number a)
renamed_value number (Picks a site) = option_map (λ k. Picks k site) (number a)
renamed_value number (Tested a u) = option_map (λ k. Tested k u) (number a)
renamed_value number (ElementsOf a) = option_map (λ k. ElementsOf k) (number a)
renamed_value number (IfHolds a c b u) = two (λ i j. IfHolds i c j u) (number a) (number b)
renamed_value number (IfNull a) = option_map (λ k. IfNull k) (number a)

-- an inequality is another with numbers for names
pub record IsRenamed {N K : Type 0} (number : N → Option K) (q : Inequality N) (r : Inequality K) : Type 0 where
  pub target : number q.target ≡ Some r.target
  pub guard : renamed_guard number q.guard ≡ Some r.guard
  pub value : renamed_value number q.value ≡ Some r.value

-- the inequalities of a system whose nodes are all there, by numbers and by names
pub record NumberedRow {N K : Type 0} (number : N → Option K) (System : Inequality N → Type 0) (r : Inequality K) : Type 0 where
  pub row : Inequality N
  pub there : System row
  pub renamed : IsRenamed number row r

pub record NamedRow {N K : Type 0} (number : N → Option K) (System : Inequality N → Type 0) (q : Inequality N) : Type 0 where
  pub there : System q
  pub numbered : Inequality K
  pub renamed : IsRenamed number q numbered

-- a list has the inequalities of another by their numbers, those whose nodes are all there, and no other
pub record AreNumbered {N K : Type 0} (number : N → Option K) (named : List (Inequality N)) (numbered : List (Inequality K)) : Type 0 where
  pub each : (r : Inequality K) → Contains numbered r → NumberedRow number (Contains named) r
  pub all : (r : Inequality K) → NumberedRow number (Contains named) r → Contains numbered r

-- the elements of a type have a node by name and one by number, or neither
abbrev pub SameElem : {N K : Type 0} → (N → Option K) → Option N → Option K → Type 0
SameElem number None o = o ≡ None
SameElem number (Some n) o = (number n ≡ o) × MatchOption o ⊥ (λ k. Unit {0})

-- tables by names and tables by numbers say the same
pub record SameTables {N K : Type 0} (number : N → Option K) (t : Tables N) (u : Tables K) : Type 0 where
  pub most : t.most ≡ u.most
  pub types : t.types ≡ u.types
  pub kind : (n : N) (k : K) → number n ≡ Some k → t.kind n ≡ u.kind k
  pub words : (n : N) (k : K) → number n ≡ Some k → t.words n ≡ u.words k
  pub inst : number t.inst ≡ Some u.inst
  pub elem : (c : ℕ) → SameElem number (t.elem c) (u.elem c)
  pub mask : t.mask ≡ u.mask
  pub keys : t.keys ≡ u.keys
  pub picks : t.picks ≡ u.picks

-- the row at a number, and no bit where there is none
abbrev pub at_number : {K : Type 0} → (K → ℕ → ℕ) → Option K → ℕ → ℕ
at_number x None = nothing
at_number x (Some k) = x k

-- an assignment to numbers as one to names, which has no bit at a node without a number, and the other way
abbrev pub by_name : {N K : Type 0} → (N → Option K) → (K → ℕ → ℕ) → N → ℕ → ℕ
by_name number x n = at_number x (number n)

abbrev pub by_number : {N K : Type 0} → (K → Option N) → (N → ℕ → ℕ) → K → ℕ → ℕ
by_number name z k = at_number z (name k)

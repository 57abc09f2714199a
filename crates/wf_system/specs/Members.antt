-- What an inequality gives, member by member: the reader's form of a row. It speaks of types, null, ints and candidates,
-- and never of words.
use Rattle.std.specs.Prelude.{◌≡◌, ℕ, ◌*◌, ◌<◌, true, false, ◌⊎◌, FitsSigned, ℤ, pos, Some, List}
use Rattle.std.specs.Int.{w32}
use Rattle.std.specs.Ordering.{int_eq}
use Rattle.std.specs.List.{list_any}
use Rattle.wf_base.specs.declared.cmp.Cmp.{Cmp}
use Rattle.wf_base.specs.declared.ids.TargetId.{TargetId}
use Rattle.wf_base.specs.Comparisons.{compares}
use Rattle.wf_lattice.specs.declared.kind.NodeKind.{NodeKind}
use Rattle.wf_lattice.specs.declared.kind.NodeKind.TheVariants as kinds
use Rattle.wf_lattice.specs.Words.{has_type, one_word}
use Rattle.wf_lattice.specs.Ints.{constant_word}
use Rattle.wf_system.specs.declared.inequality.Guard.{Guard}
use Rattle.wf_system.specs.declared.inequality.Guard.TheVariants.{Always, NonEmpty, HasType, HasUnder, Linked}
use Rattle.wf_system.specs.declared.inequality.ValueOp.{ValueOp}
use Rattle.wf_system.specs.declared.inequality.ValueOp.TheVariants.{Token, IntIs, AnyInt, AnyLong, NullRef, OneType, Copy, IntRefine, IntRefineBy, NotIn, RefEq, RefNe, OnlyNull, NoNull, Under, AllUnder, SomeUnder, Picked, Picks, Tested, ElementsOf, IfHolds, IfNull}
use Rattle.wf_system.specs.declared.inequality.Inequality.{Inequality}
use Rattle.wf_system.specs.Rows.{bit_row, type_row}
use Rattle.wf_system.specs.System.{Tables, AtLeast}
use Rattle.wf_system.specs.Fits.{IsOfTypes}

-- what a value may have in it
pub data Member : Type 0 where
  AToken : Member
  AnInt : ℤ → Member
  ALong : Member
  ANull : Member
  -- a type other than null, by its number
  OfType : ℕ → Member
  Candidate : ℕ → Member

-- the row of a member alone
abbrev pub member_row : Member → ℕ → ℕ
member_row AToken = one_word 1
member_row (AnInt i) = one_word (constant_word i)
member_row ALong = one_word 1
member_row ANull = type_row 0
member_row (OfType c) = type_row c
member_row (Candidate j) = bit_row j

-- the value of the node has the member: it is full, or has each bit of it
abbrev pub Holds : {N : Type 0} → Tables N → (N → ℕ → ℕ) → N → Member → Type 0
Holds t x n m = AtLeast t n (member_row m) (x n)

-- the type is under the class
abbrev pub IsUnder : {N : Type 0} → Tables N → ℕ → TargetId → Type 0
IsUnder t c u = has_type (t.mask u.0) c ≡ true

-- a type other than null is in the meaning of a node: the node holds it, and it is made
pub record MeansType {N : Type 0} (t : Tables N) (x : N → ℕ → ℕ) (n : N) (c : ℕ) : Type 0 where
  pub is_type : 0 < c
  pub there : c < t.types
  pub held : Holds t x n (OfType c)
  pub made : Holds t x t.inst (OfType c)

-- the meaning of the node has some type other than null
pub record MeansSome {N : Type 0} (t : Tables N) (x : N → ℕ → ℕ) (n : N) : Type 0 where
  pub type : ℕ
  pub means : MeansType t x n type

-- the node holds the int
pub record HoldsInt {N : Type 0} (t : Tables N) (x : N → ℕ → ℕ) (n : N) (i : ℤ) : Type 0 where
  pub fits : FitsSigned w32 i
  pub held : Holds t x n (AnInt i)

-- members of a set: null where it is there, and the types of which P says so
pub data GivesSet (Null : Type 0) (P : ℕ → Type 0) : Member → Type 0 where
  null : Null → GivesSet Null P ANull
  type : (c : ℕ) → P c → GivesSet Null P (OfType c)

-- a type that is made and under the class
pub record MadeUnder {N : Type 0} (t : Tables N) (x : N → ℕ → ℕ) (u : TargetId) (c : ℕ) : Type 0 where
  pub is_type : 0 < c
  pub there : c < t.types
  pub made : Holds t x t.inst (OfType c)
  pub under : IsUnder t c u

-- an int that is left by a comparison with an int of another node
pub record GivesRefined {N : Type 0} (t : Tables N) (x : N → ℕ → ℕ) (cmp : Cmp) (a b : N) (m : Member) : Type 0 where
  pub int : ℤ
  pub other : ℤ
  pub is : m ≡ AnInt int
  pub left : HoldsInt t x a int
  pub right : HoldsInt t x b other
  pub compares : compares cmp int other ≡ true

-- an int that is left by a comparison with a constant
pub record GivesRefinedBy {N : Type 0} (t : Tables N) (x : N → ℕ → ℕ) (cmp : Cmp) (a : N) (constant : ℤ) (m : Member) : Type 0 where
  pub int : ℤ
  pub is : m ≡ AnInt int
  pub left : HoldsInt t x a int
  pub compares : compares cmp int constant ≡ true

-- an int that is none of the keys
pub record GivesOther {N : Type 0} (t : Tables N) (x : N → ℕ → ℕ) (a : N) (keys : List ℤ) (m : Member) : Type 0 where
  pub int : ℤ
  pub is : m ≡ AnInt int
  pub left : HoldsInt t x a int
  pub none : list_any (int_eq int) keys ≡ false

-- a candidate that some type of the meaning picks
pub record GivesPick {N : Type 0} (t : Tables N) (x : N → ℕ → ℕ) (a : N) (site : ℕ) (m : Member) : Type 0 where
  pub type : ℕ
  pub candidate : ℕ
  pub is : m ≡ Candidate candidate
  pub means : MeansType t x a type
  pub picks : t.picks site type ≡ Some candidate

-- the int of `instanceof`: 1 for a type under the class, 0 for another and for null
pub data GivesTest {N : Type 0} (t : Tables N) (x : N → ℕ → ℕ) (a : N) (u : TargetId) : Member → Type 0 where
  one : (c : ℕ) → MeansType t x a c → IsUnder t c u → GivesTest t x a u (AnInt (pos 1))
  zero_of : (c : ℕ) → MeansType t x a c → has_type (t.mask u.0) c ≡ false → GivesTest t x a u (AnInt (pos 0))
  zero_of_null : Holds t x a ANull → GivesTest t x a u (AnInt (pos 0))

-- a member of the elements of an array type of the meaning
pub record GivesElement {N : Type 0} (t : Tables N) (x : N → ℕ → ℕ) (a : N) (m : Member) : Type 0 where
  pub type : ℕ
  pub elements : N
  pub means : MeansType t x a type
  pub is : t.elem type ≡ Some elements
  pub held : Holds t x elements m

-- one type, into the types that are made or into a node of references
abbrev pub GivesType : {N : Type 0} → Tables N → (N → ℕ → ℕ) → NodeKind → ℕ → Member → Type 0
GivesType t x kinds.Inst c m = m ≡ OfType c
GivesType t x kinds.Token c m = (m ≡ OfType c) × Holds t x t.inst (OfType c)
GivesType t x kinds.Int c m = (m ≡ OfType c) × Holds t x t.inst (OfType c)
GivesType t x kinds.Long c m = (m ≡ OfType c) × Holds t x t.inst (OfType c)
GivesType t x kinds.Refs c m = (m ≡ OfType c) × Holds t x t.inst (OfType c)
GivesType t x kinds.Links c m = (m ≡ OfType c) × Holds t x t.inst (OfType c)

-- what a value has for the target, a line for each
abbrev pub Gives : {N : Type 0} → Tables N → (N → ℕ → ℕ) → ValueOp N → N → Member → Type 0
Gives t x Token to m = m ≡ AToken
Gives t x (IntIs c) to m = m ≡ AnInt c
Gives t x AnyInt to m = (i : ℤ) × (m ≡ AnInt i)
Gives t x AnyLong to m = m ≡ ALong
Gives t x NullRef to m = m ≡ ANull
Gives t x (OneType c) to m = GivesType t x (t.kind to) c.0 m
Gives t x (Copy n) to m = Holds t x n m
Gives t x (IntRefine cmp a b) to m = GivesRefined t x cmp a b m
Gives t x (IntRefineBy cmp a j) to m = GivesRefinedBy t x cmp a j m × FitsSigned w32 j
Gives t x (NotIn a place) to m = GivesOther t x a (t.keys place) m
Gives t x (RefEq a b) to m = GivesSet (Holds t x a ANull × Holds t x b ANull) (λ c. MeansType t x a c × MeansType t x b c) m
Gives t x (RefNe a b) to m = GivesSet (Holds t x a ANull × MeansSome t x b) (λ c. MeansType t x a c × (MeansSome t x b ⊎ Holds t x b ANull)) m
Gives t x (OnlyNull a) to m = GivesSet (Holds t x a ANull) (λ c. ⊥) m
Gives t x (NoNull a) to m = GivesSet ⊥ (MeansType t x a) m
Gives t x (Under a u) to m = GivesSet (Holds t x a ANull) (λ c. MeansType t x a c × IsUnder t c u) m
Gives t x (AllUnder u) to m = GivesSet ⊥ (MadeUnder t x u) m
Gives t x (SomeUnder u) to m = GivesSet (Unit {0}) (MadeUnder t x u) m
Gives t x (Picked a site j) to m = GivesSet ⊥ (λ c. MeansType t x a c × (t.picks site c ≡ Some j)) m
Gives t x (Picks a site) to m = GivesPick t x a site m
Gives t x (Tested a u) to m = GivesTest t x a u m
Gives t x (ElementsOf a) to m = GivesElement t x a m
Gives t x (IfHolds a c b u) to m = MeansType t x a c.0 × GivesSet (Holds t x b ANull) (λ d. MeansType t x b d × IsUnder t d u) m
Gives t x (IfNull a) to m = (m ≡ AnInt (pos 0)) × Holds t x a ANull

-- the member's number is there
abbrev pub MemberFits : {N : Type 0} → Tables N → N → Member → Type 0
MemberFits t n AToken = Unit {0}
MemberFits t n (AnInt i) = Unit {0}
MemberFits t n ALong = Unit {0}
MemberFits t n ANull = (t.kind n ≡ kinds.Refs)
MemberFits t n (OfType c) = IsOfTypes (t.kind n) × (c < t.types)
MemberFits t n (Candidate j) = j < 64 * t.words n

-- what a guard asks: some member, a type that is made, a type under the class, a candidate
abbrev pub Guards : {N : Type 0} → Tables N → (N → ℕ → ℕ) → Guard N → Type 0
Guards t x Always = Unit {0}
Guards t x (NonEmpty n) = (m : Member) × MemberFits t n m × Holds t x n m
Guards t x (HasType c) = Holds t x t.inst (OfType c.0)
Guards t x (HasUnder u) = (c : ℕ) × MadeUnder t x u c
Guards t x (Linked n j) = Holds t x n (Candidate j)

-- the inequality is met, member by member: where the guard holds, the target has each member of the value
abbrev pub IsMetByMembers : {N : Type 0} → Tables N → Inequality N → (N → ℕ → ℕ) → Type 0
IsMetByMembers t q x = Guards t x q.guard → (m : Member) → Gives t x q.value q.target m → Holds t x q.target m

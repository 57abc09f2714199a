-- Which inequalities fit the tables: their numbers are there, and their nodes have the kinds that their values want.
use Rattle.std.specs.Prelude.{◌≡◌, ℕ, ◌+◌, ◌*◌, ◌<◌, ◌≤◌, IsTrue, Some}
use Rattle.wf_lattice.specs.declared.kind.NodeKind.{NodeKind}
use Rattle.wf_lattice.specs.declared.kind.NodeKind.TheVariants as kinds
use Rattle.wf_system.specs.declared.inequality.Guard.{Guard}
use Rattle.wf_system.specs.declared.inequality.Guard.TheVariants.{Always, NonEmpty, HasType, HasUnder, Linked}
use Rattle.wf_system.specs.declared.inequality.ValueOp.{ValueOp}
use Rattle.wf_system.specs.declared.inequality.ValueOp.TheVariants.{Token, IntIs, AnyInt, AnyLong, NullRef, OneType, Copy, IntRefine, IntRefineBy, NotIn, RefEq, RefNe, OnlyNull, NoNull, Under, AllUnder, SomeUnder, Picked, Picks, Tested, ElementsOf, IfHolds, IfNull}
use Rattle.wf_system.specs.declared.inequality.Inequality.{Inequality}
use Rattle.wf_lattice.specs.Words.{AreWords}
use Rattle.wf_system.specs.System.{Tables, ref_words}

-- the node has the kind
abbrev pub HasKind : {N : Type 0} → Tables N → N → NodeKind → Type 0
HasKind t n kind = t.kind n ≡ kind

-- a node of types: those that are made, or references
abbrev pub IsOfTypes : NodeKind → Type 0
IsOfTypes kinds.Token = ⊥
IsOfTypes kinds.Int = ⊥
IsOfTypes kinds.Long = ⊥
IsOfTypes kinds.Refs = Unit {0}
IsOfTypes kinds.Inst = Unit {0}
IsOfTypes kinds.Links = ⊥

-- What a system with types has: the node of the types that are made is the one of its kind, all rows of types have
-- equally many words, with a bit for each type, and the nodes of elements are nodes of references.
pub record HasTypes {N : Type 0} (t : Tables N) : Type 0 where
  pub inst : HasKind t t.inst kinds.Inst
  pub one_inst : (n : N) → HasKind t n kinds.Inst → n ≡ t.inst
  pub refs : (n : N) → HasKind t n kinds.Refs → t.words n ≡ ref_words t
  pub bits : t.types + 1 ≤ 64 * ref_words t
  pub elem : (c : ℕ) (n : N) → t.elem c ≡ Some n → HasKind t n kinds.Refs

-- The nodes are as kinds want them: a token, an int and a long have one word each, and candidates have some. Where
-- some node is of types, the system has types.
pub record AreShaped {N : Type 0} (t : Tables N) : Type 0 where
  pub token : (n : N) → HasKind t n kinds.Token → t.words n ≡ 1
  pub int : (n : N) → HasKind t n kinds.Int → t.words n ≡ 1
  pub long : (n : N) → HasKind t n kinds.Long → t.words n ≡ 1
  pub links : (n : N) → HasKind t n kinds.Links → 0 < t.words n
  pub types : (n : N) → IsOfTypes (t.kind n) → HasTypes t
  pub masks : (u : ℕ) → AreWords (t.mask u)

-- a node from which a value is copied
abbrev pub IsCopied : NodeKind → Type 0
IsCopied kinds.Token = Unit {0}
IsCopied kinds.Int = Unit {0}
IsCopied kinds.Long = Unit {0}
IsCopied kinds.Refs = Unit {0}
IsCopied kinds.Inst = ⊥
IsCopied kinds.Links = ⊥

-- the guard's node has the kind that it wants, and what it reads besides has its own
abbrev pub GuardFits : {N : Type 0} → Tables N → Guard N → Type 0
GuardFits t Always = Unit {0}
GuardFits t (NonEmpty n) = Unit {0}
GuardFits t (HasType c) = HasKind t t.inst kinds.Inst × (c.0 < t.types)
GuardFits t (HasUnder u) = HasKind t t.inst kinds.Inst
GuardFits t (Linked n j) = HasKind t n kinds.Links × (j < 64 * t.words n)

-- the value's nodes and its target have the kinds that it wants
abbrev pub ValueFits : {N : Type 0} → Tables N → ValueOp N → N → Type 0
ValueFits t Token to = HasKind t to kinds.Token
ValueFits t (IntIs c) to = HasKind t to kinds.Int
ValueFits t AnyInt to = HasKind t to kinds.Int
ValueFits t AnyLong to = HasKind t to kinds.Long
ValueFits t NullRef to = HasKind t to kinds.Refs
ValueFits t (OneType c) to = IsOfTypes (t.kind to) × (0 < c.0) × (c.0 < t.types)
ValueFits t (Copy n) to = (t.kind n ≡ t.kind to) × IsCopied (t.kind to)
ValueFits t (IntRefine cmp a b) to = HasKind t to kinds.Int × HasKind t a kinds.Int × HasKind t b kinds.Int
ValueFits t (IntRefineBy cmp a j) to = HasKind t to kinds.Int × HasKind t a kinds.Int
ValueFits t (NotIn a place) to = HasKind t to kinds.Int × HasKind t a kinds.Int
ValueFits t (RefEq a b) to = HasKind t to kinds.Refs × HasKind t a kinds.Refs × HasKind t b kinds.Refs
ValueFits t (RefNe a b) to = HasKind t to kinds.Refs × HasKind t a kinds.Refs × HasKind t b kinds.Refs
ValueFits t (OnlyNull a) to = HasKind t to kinds.Refs × HasKind t a kinds.Refs
ValueFits t (NoNull a) to = HasKind t to kinds.Refs × HasKind t a kinds.Refs
ValueFits t (Under a u) to = HasKind t to kinds.Refs × HasKind t a kinds.Refs
ValueFits t (AllUnder u) to = HasKind t to kinds.Refs
ValueFits t (SomeUnder u) to = HasKind t to kinds.Refs
ValueFits t (Picked a site j) to = HasKind t to kinds.Refs × HasKind t a kinds.Refs
ValueFits t (Picks a site) to = HasKind t to kinds.Links × HasKind t a kinds.Refs × ((c j : ℕ) → t.picks site c ≡ Some j → j < 64 * t.words to)
ValueFits t (Tested a u) to = HasKind t to kinds.Int × HasKind t a kinds.Refs
ValueFits t (ElementsOf a) to = HasKind t to kinds.Refs × HasKind t a kinds.Refs
ValueFits t (IfHolds a c b u) to = HasKind t to kinds.Refs × HasKind t a kinds.Refs × HasKind t b kinds.Refs × (c.0 < t.types)
ValueFits t (IfNull a) to = HasKind t to kinds.Int × HasKind t a kinds.Refs

-- a node is there
abbrev pub IsThere : {N : Type 0} → Tables N → N → Type 0
IsThere t n = IsTrue (t.there n)

-- all numbers of a guard and of a value are there: their nodes, classes, lists of keys and sites
abbrev pub GuardIsThere : {N : Type 0} → Tables N → Guard N → Type 0
GuardIsThere t Always = Unit {0}
GuardIsThere t (NonEmpty n) = IsThere t n
GuardIsThere t (HasType c) = IsThere t t.inst
GuardIsThere t (HasUnder u) = IsThere t t.inst × (u.0 < t.targets)
GuardIsThere t (Linked n j) = IsThere t n

abbrev pub ValueIsThere : {N : Type 0} → Tables N → ValueOp N → Type 0
ValueIsThere t Token = Unit {0}
ValueIsThere t (IntIs c) = Unit {0}
ValueIsThere t AnyInt = Unit {0}
ValueIsThere t AnyLong = Unit {0}
ValueIsThere t NullRef = Unit {0}
ValueIsThere t (OneType c) = Unit {0}
ValueIsThere t (Copy n) = IsThere t n
ValueIsThere t (IntRefine cmp a b) = IsThere t a × IsThere t b
ValueIsThere t (IntRefineBy cmp a j) = IsThere t a
ValueIsThere t (NotIn a place) = IsThere t a × (place < t.switches)
ValueIsThere t (RefEq a b) = IsThere t a × IsThere t b
ValueIsThere t (RefNe a b) = IsThere t a × IsThere t b
ValueIsThere t (OnlyNull a) = IsThere t a
ValueIsThere t (NoNull a) = IsThere t a
ValueIsThere t (Under a u) = IsThere t a × (u.0 < t.targets)
ValueIsThere t (AllUnder u) = u.0 < t.targets
ValueIsThere t (SomeUnder u) = u.0 < t.targets
ValueIsThere t (Picked a site j) = IsThere t a × (site < t.sites)
ValueIsThere t (Picks a site) = IsThere t a × (site < t.sites)
ValueIsThere t (Tested a u) = IsThere t a × (u.0 < t.targets)
ValueIsThere t (ElementsOf a) = IsThere t a
ValueIsThere t (IfHolds a c b u) = IsThere t a × IsThere t b × (u.0 < t.targets)
ValueIsThere t (IfNull a) = IsThere t a

-- The inequality fits: its numbers are there, and its nodes have the kinds that it wants.
pub record Fits {N : Type 0} (t : Tables N) (q : Inequality N) : Type 0 where
  pub guard : GuardFits t q.guard
  pub value : ValueFits t q.value q.target
  pub guard_there : GuardIsThere t q.guard
  pub value_there : ValueIsThere t q.value
  pub target_there : IsThere t q.target

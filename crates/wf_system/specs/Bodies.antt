-- The system that bodies mean, with its inequalities and what each reads.
use Rattle.std.specs.Prelude.{◌≡◌, ◌≢◌, ℕ, zero, suc, Bool, true, false, ◌||◌, ◌==◌, List, length, Contains, Option, Some, None, slice_index_or, [], nat_lt}
use Rattle.wf_base.specs.declared.ids.NodeId.{NodeId}
use Rattle.wf_lattice.specs.Words.{words_of}
use Rattle.wf_lattice.specs.declared.kind.NodeKind.{NodeKind}
use Rattle.wf_lattice.specs.declared.kind.NodeKind.TheVariants as kinds
use Rattle.wf_system.specs.declared.node_shape.NodeShape.{NodeShape}
use Rattle.wf_system.specs.declared.side.Side.{Side}
use Rattle.wf_system.specs.declared.inequality.Guard.{Guard}
use Rattle.wf_system.specs.declared.inequality.Guard.TheVariants.{Always, NonEmpty, HasType, HasUnder, Linked}
use Rattle.wf_system.specs.declared.inequality.ValueOp.{ValueOp}
use Rattle.wf_system.specs.declared.inequality.ValueOp.TheVariants.{Token, IntIs, AnyInt, AnyLong, NullRef, OneType, Copy, IntRefine, IntRefineBy, NotIn, RefEq, RefNe, OnlyNull, NoNull, Under, AllUnder, SomeUnder, Picked, Picks, Tested, ElementsOf, IfHolds, IfNull}
use Rattle.wf_system.specs.declared.inequality.Inequality.{Inequality}
use Rattle.wf_system.specs.Shapes.{shape_at, row_at}
use Rattle.wf_system.specs.Sides.{pick_of, table_of}
use Rattle.wf_system.specs.System.{Tables, Least}
use Rattle.wf_system.specs.Fits.{AreShaped, Fits}

-- what a shape, a threshold and a side table say together
abbrev pub tables_of : List NodeShape → ℕ → Side → Tables NodeId
tables_of nodes most side = record {
  most = most;
  there = λ n. nat_lt n.0 (length nodes);
  kind = λ n. (shape_at nodes n.0).kind;
  words = λ n. (shape_at nodes n.0).words;
  inst = side.inst;
  types = length side.elems;
  elem = λ c. slice_index_or side.elems c None;
  targets = length side.masks;
  mask = λ u. words_of (slice_index_or side.masks u []);
  switches = length side.keys;
  keys = λ place. slice_index_or side.keys place [];
  sites = length side.sites;
  picks = λ site c. pick_of (table_of side.tables side.sites site) c;
}

-- A system over numbered nodes: what its inequalities look up, and the inequalities.
pub record System : Type 0 where
  pub nodes : List NodeShape
  pub most : ℕ
  pub side : Side
  pub rows : List (Inequality NodeId)

abbrev pub system_of : List NodeShape → ℕ → Side → List (Inequality NodeId) → System
system_of nodes most side rows = record { nodes = nodes; most = most; side = side; rows = rows }

abbrev pub tables : System → Tables NodeId
tables s = tables_of s.nodes s.most s.side

-- the assignment that words are: to each node the row of its words
abbrev pub rows_at : List NodeShape → List ℕ → NodeId → ℕ → ℕ
rows_at nodes words n = row_at nodes words n.0

-- the nodes are one
abbrev pub is_node : NodeId → NodeId → Bool
is_node a b = a.0 == b.0

-- the nodes that a guard reads
abbrev pub guard_reads : {N : Type 0} → (N → N → Bool) → Tables N → Guard N → N → Bool
guard_reads same t Always n = false
guard_reads same t (NonEmpty a) n = same a n
guard_reads same t (HasType c) n = same t.inst n
guard_reads same t (HasUnder u) n = same t.inst n
guard_reads same t (Linked a j) n = same a n

abbrev pub elem_is : {N : Type 0} → (N → N → Bool) → Option N → N → Bool
elem_is same None n = false
elem_is same (Some a) n = same a n

-- a node is that of the elements of a type below the number
abbrev pub is_element : {N : Type 0} → (N → N → Bool) → Tables N → ℕ → N → Bool
is_element same t zero n = false
is_element same t (suc c) n = is_element same t c n || elem_is same (t.elem c) n

-- one type reads what is made, but where it flows into that itself
abbrev pub type_reads : NodeKind → Bool → Bool
type_reads kinds.Inst inst = false
type_reads kinds.Token inst = inst
type_reads kinds.Int inst = inst
type_reads kinds.Long inst = inst
type_reads kinds.Refs inst = inst
type_reads kinds.Links inst = inst

-- the nodes that a value reads, for a target of a kind
abbrev pub value_reads : {N : Type 0} → (N → N → Bool) → Tables N → ValueOp N → NodeKind → N → Bool
value_reads same t Token to n = false
value_reads same t (IntIs c) to n = false
value_reads same t AnyInt to n = false
value_reads same t AnyLong to n = false
value_reads same t NullRef to n = false
value_reads same t (OneType c) to n = type_reads to (same t.inst n)
value_reads same t (Copy a) to n = same a n
value_reads same t (IntRefine cmp a b) to n = same a n || same b n
value_reads same t (IntRefineBy cmp a j) to n = same a n
value_reads same t (NotIn a place) to n = same a n
value_reads same t (RefEq a b) to n = same a n || same b n || same t.inst n
value_reads same t (RefNe a b) to n = same a n || same b n || same t.inst n
value_reads same t (OnlyNull a) to n = same a n || same t.inst n
value_reads same t (NoNull a) to n = same a n || same t.inst n
value_reads same t (Under a u) to n = same a n || same t.inst n
value_reads same t (AllUnder u) to n = same t.inst n
value_reads same t (SomeUnder u) to n = same t.inst n
value_reads same t (Picked a site j) to n = same a n || same t.inst n
value_reads same t (Picks a site) to n = same a n || same t.inst n
value_reads same t (Tested a u) to n = same a n || same t.inst n
value_reads same t (ElementsOf a) to n = same a n || same t.inst n || is_element same t t.types n
value_reads same t (IfHolds a c b u) to n = same a n || same b n || same t.inst n
value_reads same t (IfNull a) to n = same a n || same t.inst n

-- the nodes that an inequality reads
abbrev pub reads : {N : Type 0} → (N → N → Bool) → Tables N → Inequality N → N → Bool
reads same t q n = guard_reads same t q.guard n || value_reads same t q.value (t.kind q.target) n

-- words stand for the least solution of the system that is at least other words
abbrev pub IsSolved : System → List ℕ → List ℕ → Type 0
IsSolved s old new = Least (tables s) (Contains s.rows) (rows_at s.nodes old) (rows_at s.nodes new)

-- What a contract sees of a solution: its words, the system, and the words that it is at least.
pub record Solved : Type 0 where
  pub system : System
  pub start : List ℕ
  pub words : List ℕ

abbrev pub solved_of : System → List ℕ → List ℕ → Solved
solved_of system start words = record { system = system; start = start; words = words }

-- a list has the inequalities of the system that read the node, and no other
pub record AreReaders (s : System) (node : NodeId) (list : List (Inequality NodeId)) : Type 0 where
  pub all : (q : Inequality NodeId) → Contains s.rows q → reads is_node (tables s) q node ≡ true → Contains list q
  pub only : (q : Inequality NodeId) → Contains list q → Contains s.rows q × (reads is_node (tables s) q node ≡ true)

-- Every inequality fits, and none holds always: what holds always are the seeds.
pub record SystemFits (s : System) : Type 0 where
  pub shaped : AreShaped (tables s)
  pub each : (q : Inequality NodeId) → Contains s.rows q → Fits (tables s) q
  pub seeds_apart : (q : Inequality NodeId) → Contains s.rows q → q.guard ≢ Always

-- The lists of readers of a system whose inequalities are kept.
use Rattle.std.specs.Prelude.{◌≡◌, ℕ, ◌<◌, Bool, true, ◌⊎◌, List, [], length, slice_index_or, Contains}
use Rattle.wf_base.specs.declared.ids.NodeId.{NodeId}
use Rattle.wf_system.specs.declared.inequality.Inequality.{Inequality}
use Rattle.wf_system.specs.Bodies.{System, tables, is_node, reads, AreReaders, SystemFits}

-- the list of a node, by its number
abbrev pub list_at : List (List (Inequality NodeId)) → ℕ → List (Inequality NodeId)
list_at lists n = slice_index_or lists n []

-- the node of a number
abbrev pub node_at : ℕ → NodeId
node_at n = record { 0 = n }

-- an inequality is put into the lists of the nodes of which P says so, and into no other
pub record PutsWhere (P : NodeId → Bool) (q : Inequality NodeId) (old new : List (List (Inequality NodeId))) : Type 0 where
  pub same : length new ≡ length old
  pub kept : (n : ℕ) (p : Inequality NodeId) → Contains (list_at old n) p → Contains (list_at new n) p
  pub there : (n : ℕ) → n < length old → P (node_at n) ≡ true → Contains (list_at new n) q
  pub only : (n : ℕ) (p : Inequality NodeId) → Contains (list_at new n) p → Contains (list_at old n) p ⊎ ((p ≡ q) × (P (node_at n) ≡ true))

-- so many empty lists
pub record AreEmpty (count : ℕ) (lists : List (List (Inequality NodeId))) : Type 0 where
  pub many : length lists ≡ count
  pub none : (n : ℕ) → list_at lists n ≡ []

-- the lists have those of the first inequalities that read their nodes, and no other
pub record AreListed (s : System) (count : ℕ) (lists : List (List (Inequality NodeId))) : Type 0 where
  pub many : length lists ≡ length s.nodes
  pub all : (n i : ℕ) (d : Inequality NodeId) → n < length s.nodes → i < count → reads is_node (tables s) (slice_index_or s.rows i d) (node_at n) ≡ true → Contains (list_at lists n) (slice_index_or s.rows i d)
  pub only : (n : ℕ) (p : Inequality NodeId) → Contains (list_at lists n) p → Contains s.rows p × (reads is_node (tables s) p (node_at n) ≡ true)

-- a system fits, and its lists have the readers of each node
pub record AreKept (s : System) (lists : List (List (Inequality NodeId))) : Type 0 where
  pub fits : SystemFits s
  pub many : length lists ≡ length s.nodes
  pub each : (n : ℕ) → n < length s.nodes → AreReaders s (node_at n) (list_at lists n)

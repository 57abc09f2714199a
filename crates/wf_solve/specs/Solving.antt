-- What the solver keeps, and what it ends with.
use Rattle.std.specs.Prelude.{◌≡◌, ◌⊎◌, ℕ, ◌+◌, ◌*◌, ◌≤◌, true, List, length, Contains}
use Rattle.wf_base.specs.declared.ids.NodeId.{NodeId}
use Rattle.wf_lattice.specs.Words.{IsWithin, words_of, counted}
use Rattle.wf_system.specs.declared.inequality.Inequality.{Inequality}
use Rattle.wf_system.specs.System.{IsBelow, IsMet, Solves}
use Rattle.wf_system.specs.Bodies.{System, tables, rows_at, is_node, reads}
use Rattle.wf_solve.specs.Work.{Work, is_listed, how_many}

-- the inequality reads a node that is on the list
pub record HasSource (s : System) (q : Inequality NodeId) (work : Work) : Type 0 where
  pub node : NodeId
  pub read : reads is_node (tables s) q node ≡ true
  pub listed : is_listed work node.0 ≡ true

-- every inequality of the system that isn't met has a source on the list
pub record IsCovered (s : System) (words : List ℕ) (work : Work) : Type 0 where
  pub each : (q : Inequality NodeId) → Contains s.rows q → IsMet (tables s) q (rows_at s.nodes words) ⊎ HasSource s q work

-- the words are at least the earlier ones, and not above any assignment that solves the system above these
pub record IsBetween (s : System) (old new : List ℕ) : Type 0 where
  pub same : length new ≡ length old
  pub grown : IsWithin (words_of old) (words_of new)
  pub below : (y : NodeId → ℕ → ℕ) → Solves (tables s) (Contains s.rows) (rows_at s.nodes old) y → IsBelow (tables s) (rows_at s.nodes new) y

-- each inequality is met, or has a source on the list, or reads the node
pub record IsCoveredBut (s : System) (node : NodeId) (words : List ℕ) (work : Work) : Type 0 where
  pub each : (q : Inequality NodeId) → Contains s.rows q → IsMet (tables s) q (rows_at s.nodes words) ⊎ (HasSource s q work ⊎ (reads is_node (tables s) q node ≡ true))

-- what lay above a start lies above it still
pub record StaysBetween (s : System) (old new : List ℕ) : Type 0 where
  pub from : (start : List ℕ) → IsBetween s start old → IsBetween s start new

-- each inequality is met, or has a source on the list, or is still to be raised
pub record Visiting (s : System) (left : List (Inequality NodeId)) (old now : List ℕ) (work : Work) : Type 0 where
  pub each : (p : Inequality NodeId) → Contains s.rows p → IsMet (tables s) p (rows_at s.nodes now) ⊎ (HasSource s p work ⊎ Contains left p)
  pub only : (p : Inequality NodeId) → Contains left p → Contains s.rows p
  pub stays : StaysBetween s old now
  pub same : length now ≡ length old

-- how many bits are set in words
abbrev pub bits_set : List ℕ → ℕ
bits_set words = counted (length words) (words_of words)

-- nodes came onto the list only for bits that came into the words
pub record IsPaid (old new : List ℕ) (was now : Work) : Type 0 where
  pub paid : (n : ℕ) → how_many n (is_listed now) + bits_set old ≤ how_many n (is_listed was) + bits_set new

-- What holds of a run that took some steps: its words lie between, what isn't met has a source on the list, and each step
-- was paid by a node that was on the list or by a bit.
pub record IsRunning (s : System) (start now : List ℕ) (first work : Work) (before steps : ℕ) : Type 0 where
  pub between : IsBetween s start now
  pub covered : IsCovered s now work
  pub nodes : work.nodes ≡ length s.nodes
  pub few : bits_set now ≤ 64 * length now
  pub spent : steps + how_many (length s.nodes) (is_listed work) + bits_set start ≤ before + how_many (length s.nodes) (is_listed first) + bits_set now

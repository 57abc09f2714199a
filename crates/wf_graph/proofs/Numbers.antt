-- The numbers of all nodes.
use Rattle.std.proofs.Common.{◌≡◌, ℕ, ◌+◌, ◌<◌, ◌≤◌, List, length, Some, sym, ap, arith}
use Rattle.wf_rows.specs.declared.node.Node.{Node}
use Rattle.wf_rows.specs.declared.node.Node.TheVariants.{In}
use Rattle.wf_rows.specs.declared.node.Own.{Own}
use Rattle.wf_rows.specs.Nodes.{Shared}
use Rattle.wf_nodes.specs.Numbering.{shared_number, shared_count}
use Rattle.wf_own.specs.OwnNumbers.{own_number}
use Rattle.wf_graph.specs.Numbering.{number_in}

-- what holds of the nodes that bodies share, and of those of a body
pub record Known (s : Shared) : Type 0 where
  pub below : (node : Node Own) (n : ℕ) → shared_number s node ≡ Some n → n < shared_count s
  pub apart : (a b : Node Own) (n : ℕ) → shared_number s a ≡ Some n → shared_number s b ≡ Some n → a ≡ b
  pub within : (first n : ℕ) (owns : List Own) (own : Own) → own_number first owns own ≡ Some n → (first ≤ n) × (n < first + length owns)
  pub own_apart : (first n : ℕ) (owns : List Own) (a b : Own) → own_number first owns a ≡ Some n → own_number first owns b ≡ Some n → a ≡ b

module _ (s : Shared) (known : Known s) where
  mixed : (first n : ℕ) (owns : List Own) (a : Node Own) (b : Own) → shared_count s ≤ first → shared_number s a ≡ Some n → own_number first owns b ≡ Some n → a ≡ In b
  mixed first n owns a b l e f = absurd (omega (arith, l, known.below a n e, (known.within first n owns b f).0))

  -- two nodes with one number are one
  pub one_node : (first n : ℕ) (owns : List Own) (a b : Node Own) → shared_count s ≤ first → number_in s first owns a ≡ Some n → number_in s first owns b ≡ Some n → a ≡ b
  one_node first n owns (In a) (In b) l e f = ap (λ (o : Own). In o) (known.own_apart first n owns a b e f)
  one_node first n owns (In a) b l e f = sym (mixed first n owns b a l f e)
  one_node first n owns a (In b) l e f = mixed first n owns a b l e f
  one_node first n owns a b l e f = known.apart a b n e f

  -- a number is below the count of all
  pub number_below : (first n : ℕ) (owns : List Own) (node : Node Own) → shared_count s ≤ first → number_in s first owns node ≡ Some n → n < first + length owns
  number_below first n owns (In own) l e = (known.within first n owns own e).1
  number_below first n owns node l e = omega (arith, l, known.below node n e)

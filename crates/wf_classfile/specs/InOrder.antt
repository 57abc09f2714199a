-- Pairs of numbers in the order in which they came, and the set of them.
use Rattle.std.specs.Prelude.{◌≡◌, ℕ, Bool, ◌&&◌, ◌==◌, List}
use Rattle.std.specs.Ordering.{nat_cmp, ordering_then}
use Rattle.std.specs.List.{list_any}
use Rattle.std.specs.BTreeSet as sorted
use Rattle.std.specs.BTreeSet.{BTreeSet}

abbrev pub same_pair : ℕ × ℕ → ℕ × ℕ → Bool
same_pair p q = p.0 == q.0 && p.1 == q.1

-- the set has the pairs of the list
pub record HasPairs (found : BTreeSet (ℕ × ℕ)) (order : List (ℕ × ℕ)) : Type 0 where
  pub has : (p : ℕ × ℕ) → sorted.contains (λ x y. ordering_then (nat_cmp x.0 y.0) (nat_cmp x.1 y.1)) found p ≡ list_any (same_pair p) order

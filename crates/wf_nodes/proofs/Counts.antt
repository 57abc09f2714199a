-- What stands in front of an element of a list, by a count of each.
use Rattle.std.proofs.Common.{◌≡◌, ℕ, ◌+◌, ◌<◌, ◌≤◌, List, length, take, get_or, ap, arith, inl, inr, ◌⊎◌}
use Rattle.std.specs.List.{sum_by}
use Rattle.std.proofs.lemmas.Bool.{cases_lt}
use Rattle.std.proofs.lemmas.List.{get_or_past, get_or-take, take-take}
use Rattle.std.proofs.lemmas.List.Sums.{sum_by_more_le, sum_by-take-le}
use Rattle.wf_nodes.specs.Numbering.{before}

module _ {A : Type 0} (count : A → ℕ) (d : A) (none : count d ≡ 0) where
  -- an element is within the whole
  pub before_within : (xs : List A) (i : ℕ) → before count i xs + count (get_or xs i d) ≤ sum_by count xs
  before_within xs i = at (cases_lt i (length xs)) where
    at : ((i < length xs) ⊎ (length xs ≤ i)) → before count i xs + count (get_or xs i d) ≤ sum_by count xs
    at (inl l) = sum_by_more_le count xs i d l
    at (inr m) = omega (arith, none, ap count (get_or_past xs i d m), sum_by-take-le count xs i)

  -- and in front of a later one
  pub before_later : (xs : List A) (i j : ℕ) → i < j → before count i xs + count (get_or xs i d) ≤ before count j xs
  before_later xs i j l =
      let h = before_within (take j xs) i in
      omega (arith, h, ap (sum_by count) (take-take i j xs (omega arith)), ap count (get_or-take j xs i d l))

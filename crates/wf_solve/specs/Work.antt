-- The nodes that are still to be looked at, a bit each: what adding one, taking one and finding none mean.
use Rattle.std.specs.Prelude.{◌≡◌, ◌≢◌, ℕ, zero, suc, ◌+◌, ◌/◌, ◌<◌, Bool, true, false, if◌then◌else◌, List, length}
use Rattle.wf_lattice.specs.Words.{words_of, has_bit}

-- What a contract sees of a list of work: the number of nodes that it was opened for, and the words of the bits.
pub record Work : Type 0 where
  pub nodes : ℕ
  pub bits : List ℕ

abbrev pub work_of : ℕ → List ℕ → Work
work_of nodes bits = record { nodes = nodes; bits = bits }

-- the node is on the list
abbrev pub is_listed : Work → ℕ → Bool
is_listed work n = has_bit (words_of work.bits) n

-- how many numbers below n pass the test
abbrev pub how_many : ℕ → (ℕ → Bool) → ℕ
how_many zero P = 0
how_many (suc n) P = how_many n P + (if P n then 1 else 0)

-- the node is put on the list, and the others stay as they are
pub record Adds (n : ℕ) (old new : Work) : Type 0 where
  pub same : new.nodes ≡ old.nodes
  pub there : is_listed new n ≡ true
  pub others : (m : ℕ) → m ≢ n → is_listed new m ≡ is_listed old m

-- the node is taken off the list, and the others stay as they are
pub record Takes (n : ℕ) (old new : Work) : Type 0 where
  pub same : new.nodes ≡ old.nodes
  pub below : n < old.nodes
  pub there : is_listed old n ≡ true
  pub gone : is_listed new n ≡ false
  pub others : (m : ℕ) → m ≢ n → is_listed new m ≡ is_listed old m

-- no node is on the list
pub record IsDone (work : Work) : Type 0 where
  pub each : (m : ℕ) → is_listed work m ≡ false

-- where the node is the one that comes last, no other is on the list
abbrev pub IsLast : ℕ → ℕ → Work → Type 0
IsLast n last work = n ≡ last → (m : ℕ) → m ≢ last → is_listed work m ≡ false

-- each node that the list was opened for is on it
pub record HasAll (work : Work) : Type 0 where
  pub each : (m : ℕ) → m < work.nodes → is_listed work m ≡ true

-- there is a bit for each node, and none is set for another number
pub record IsKept (work : Work) : Type 0 where
  pub room : length work.bits ≡ work.nodes / 64 + 1
  pub below : (m : ℕ) → is_listed work m ≡ true → m < work.nodes

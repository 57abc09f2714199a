-- Inclusion of words, by their bits.
use Rattle.std.proofs.Common.{◌≡◌, ℕ, zero, suc, ◌/◌, ◌≤◌, bit_and, bit_or, count_ones, ap, arith}
use Rattle.std.specs.Int.{bit_at}
use Rattle.std.proofs.lemmas.Nat.Bits.{bit_at_or, bit_at_and, bit_at_lowest, bit_at-zero, same_from_bits}
use Rattle.std.proofs.lemmas.Nat.{or_shr}
use lib.Count.{ones_step, ones-le}
use Rattle.wf_lattice.specs.Words.{IsIn}

pub in_bits : (a b k : ℕ) → IsIn a b → bit_at a k ≤ bit_at b k
in_bits a b k e = omega (arith, bit_at_or a b k, ap (λ (n : ℕ). bit_at n k) e)

pub from_bits : (a b : ℕ) → ((k : ℕ) → bit_at a k ≤ bit_at b k) → IsIn a b
from_bits a b h = same_from_bits (bit_or a b) b (λ k. omega (arith, bit_at_or a b k, h k))

pub in_itself : (a : ℕ) → IsIn a a
in_itself a = from_bits a a (λ k. omega arith)

pub in_through : (a b c : ℕ) → IsIn a b → IsIn b c → IsIn a c
in_through a b c p q = from_bits a c (λ k. omega (arith, in_bits a b k p, in_bits b c k q))

pub in_left : (a b : ℕ) → IsIn a (bit_or a b)
in_left a b = from_bits a (bit_or a b) (λ k. omega (arith, bit_at_or a b k))

pub in_right : (a b : ℕ) → IsIn b (bit_or a b)
in_right a b = from_bits b (bit_or a b) (λ k. omega (arith, bit_at_or a b k))

pub or_in : (a b c : ℕ) → IsIn a c → IsIn b c → IsIn (bit_or a b) c
or_in a b c p q = from_bits (bit_or a b) c (λ k. omega (arith, bit_at_or a b k, in_bits a c k p, in_bits b c k q))

pub or_grows : (a b c d : ℕ) → IsIn a c → IsIn b d → IsIn (bit_or a b) (bit_or c d)
or_grows a b c d p q = from_bits (bit_or a b) (bit_or c d) (λ k. omega (arith, bit_at_or a b k, bit_at_or c d k, in_bits a c k p, in_bits b d k q))

pub and_in_left : (a b : ℕ) → IsIn (bit_and a b) a
and_in_left a b = from_bits (bit_and a b) a (λ k. omega (arith, bit_at_and a b k))

pub and_in_right : (a b : ℕ) → IsIn (bit_and a b) b
and_in_right a b = from_bits (bit_and a b) b (λ k. omega (arith, bit_at_and a b k))

pub and_grows : (a b c d : ℕ) → IsIn a c → IsIn b d → IsIn (bit_and a b) (bit_and c d)
and_grows a b c d p q = from_bits (bit_and a b) (bit_and c d) (λ k. omega (arith, bit_at_and a b k, bit_at_and c d k, in_bits a c k p, in_bits b d k q))

-- what lies in two words lies in their AND
pub in_and : (a b c : ℕ) → IsIn a b → IsIn a c → IsIn a (bit_and b c)
in_and a b c p q = from_bits a (bit_and b c) (λ k. omega (arith, bit_at_and b c k, in_bits a b k p, in_bits a c k q))

-- a greater word has more bits
pub ones_grow : (k a b : ℕ) → a ≤ k → count_ones a ≤ count_ones (bit_or a b)
ones_grow k zero b le = omega (arith, ones-le 0 0 (omega arith))
ones_grow zero (suc a) b le = absurd (omega arith)
ones_grow (suc k) (suc a) b le = omega (
  arith,
  ones_step (suc a),
  ones_step (bit_or (suc a) b),
  or_shr (suc a) b 1,
  ap (λ (n : ℕ). count_ones n) (or_shr (suc a) b 1),
  ones_grow k (suc a / 2) (b / 2) (omega arith),
  bit_at_or (suc a) b 0,
  bit_at_lowest (suc a),
  bit_at_lowest b,
  bit_at_lowest (bit_or (suc a) b),
)

pub ones_in : (a b : ℕ) → IsIn a b → count_ones a ≤ count_ones b
ones_in a b e = omega (arith, ones_grow a a b (omega arith), ap (λ (n : ℕ). count_ones n) e)

pub or_zero : (a : ℕ) → bit_or a 0 ≡ a
or_zero a = same_from_bits (bit_or a 0) a (λ k. omega (arith, bit_at_or a 0 k, bit_at-zero k))

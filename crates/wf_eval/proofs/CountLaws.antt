-- Words that rise have more bits.
use Rattle.std.proofs.Common.{◌≡◌, ◌≢◌, ℕ, zero, suc, ◌/◌, ◌+◌, ◌<◌, ◌≤◌, ◌⊎◌, inl, inr, bit_or, count_ones, sym, ap, ◌∙◌, arith}
use Rattle.std.proofs.lemmas.Bool.{cases_eq}
use Rattle.std.proofs.lemmas.Nat.Bits.{bit_at_or, bit_at_lowest}
use Rattle.std.proofs.lemmas.Nat.{or_shr, le_or_l}
use lib.Count.{ones_step}
use Rattle.wf_lattice.specs.Words.{IsIn, IsWithin, counted}
use Rattle.wf_lattice.proofs.BitLaws.{ones_in}
use Rattle.wf_lattice.proofs.RowLaws.{counted_grows}

-- a word that gains a bit has more, by its halves
more_ones : (k a b : ℕ) → bit_or a b ≤ k → a ≢ bit_or a b → count_ones a < count_ones (bit_or a b)
more_ones zero a b le other = absurd (other (omega (arith, le_or_l a b)))
more_ones (suc k) a b le other = go (λ low apart. more_ones k (a / 2) (b / 2) low apart) (cases_eq (a / 2) (bit_or (a / 2) (b / 2)))
  where
    half : bit_or a b / 2 ≡ bit_or (a / 2) (b / 2)
    half = omega (arith, or_shr a b 1)

    go : (bit_or (a / 2) (b / 2) ≤ k → a / 2 ≢ bit_or (a / 2) (b / 2) → count_ones (a / 2) < count_ones (bit_or (a / 2) (b / 2)))
        → ((a / 2 ≡ bit_or (a / 2) (b / 2)) ⊎ (a / 2 ≡ bit_or (a / 2) (b / 2) → ⊥)) → count_ones a < count_ones (bit_or a b)
    go halves (inl same) = low (cases_eq a (bit_or a b))
      where
        low : ((a ≡ bit_or a b) ⊎ (a ≡ bit_or a b → ⊥)) → count_ones a < count_ones (bit_or a b)
        low (inl e) = absurd (other e)
        low (inr apart) = omega (
          arith,
          half,
          same,
          apart,
          ones_step a,
          ones_step (bit_or a b),
          ap (λ (n : ℕ). count_ones n) (same ∙ sym half),
          bit_at_or a b 0,
          bit_at_lowest a,
          bit_at_lowest (bit_or a b),
        )
    go halves (inr apart) = omega (
      arith,
      ones_step a,
      ones_step (bit_or a b),
      ap (λ (n : ℕ). count_ones n) half,
      halves (omega (arith, half, le, le_or_l a b, other)) apart,
      bit_at_or a b 0,
      bit_at_lowest a,
      bit_at_lowest (bit_or a b),
    )

pub ones_rise : (a b : ℕ) → IsIn a b → a ≢ b → count_ones a < count_ones b
ones_rise a b e other = omega (arith, more_ones (bit_or a b) a b (omega arith) (λ same. other (same ∙ e)), ap (λ (n : ℕ). count_ones n) e)

-- a row of which a word rises has more bits
pub counted_rises : (n i : ℕ) (f g : ℕ → ℕ) → IsWithin f g → i < n → f i ≢ g i → counted n f < counted n g
counted_rises zero i f g within lt other = absurd (omega arith)
counted_rises (suc n) i f g within lt other = go (λ below. counted_rises n i f g within below other) (cases_eq i n)
  where
    go : (i < n → counted n f < counted n g) → ((i ≡ n) ⊎ (i ≡ n → ⊥)) → counted n f + count_ones (f n) < counted n g + count_ones (g n)
    go earlier (inl same) = omega (
      arith,
      counted_grows n f g within,
      ones_rise (f n) (g n) (within.each n) (λ e. other (ap f same ∙ e ∙ sym (ap g same))),
    )
    go earlier (inr apart) = omega (
      arith,
      earlier (omega (arith, lt, apart)),
      ones_in (f n) (g n) (within.each n),
    )

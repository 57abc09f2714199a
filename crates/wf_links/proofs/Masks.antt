-- What the row of the receivers says of the types of one of its words.
use Rattle.std.proofs.Common.{◌≡◌, ℕ, ◌+◌, ◌*◌, ◌/◌, ◌%◌, ◌≤◌, List, get_or, refl, sym, ap, ◌∙◌, arith}
use Rattle.std.specs.Int.{bit_at}
use Rattle.std.proofs.lemmas.Bool.{eqb-true}
use Rattle.std.proofs.lemmas.Nat.Bits.{bit_at-zero}
use Rattle.wf_lattice.specs.Words.{words_of}
use Rattle.wf_subtype.specs.Rows.{IsMask}
use Rattle.wf_subtype.specs.Subtypes.{AllTypes}
use Rattle.wf_links.specs.declared.callee.Callee.{Callee}
use Rattle.wf_links.specs.Candidates.{NoneSelect}

-- none of the types of a word that is 0 is a receiver
pub none_received : (types : AllTypes) (callee : Callee) (words : List ℕ) (i m n : ℕ) → IsMask types callee.receivers words → get_or words i 0 ≡ 0 → 64 * i ≤ m + 2 → n ≤ 64 * i + 62 → NoneSelect types callee m n
none_received types callee words i m n mask zero low high = record {
  each = λ t l k.
      let here : (t + 1) / 64 ≡ i = omega (arith, l, k, low, high) in
      let none = ap (λ w. bit_at w ((t + 1) % 64)) (ap (λ j. get_or words j 0) here ∙ zero) ∙ bit_at-zero ((t + 1) % 64) in
      record {
        receiver = λ r. absurd (let one = eqb-true (bit_at (words_of words ((t + 1) / 64)) ((t + 1) % 64)) 1 ((mask.each t).1 r.under) in let bad : 0 ≡ 1 = sym none ∙ one in omega (arith, bad));
        other = λ u. refl;
      };
}

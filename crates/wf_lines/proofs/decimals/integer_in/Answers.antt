use Rattle.std.proofs.Common.{◌≡◌, ℕ, ◌^◌, List, Option, Some, None, sym, ap, ◌∙◌, ℤ, pos, ◌-ℤ◌, ◌≤ℤ◌, arith}
use Rattle.std.proofs.lemmas.Int.{ints}
use Rattle.std.specs.Prelude.{option_and_then}
use mir.Syntax.{w64}
use mir.Val.{to_z, of_z}
use Rattle.wf_lines.specs.Decimals.{within, as_long, integer_of, integer_in}
use Rattle.wf_lines.proofs.Digits.{narrowed, is_below, is_above, is_within}
use Rattle.wf_lines.proofs.decimals.integer_in.Goals as goal
use Rattle.wf_lines.proofs.decimals.integer_in.Goals.{then-n-least-via-then-n-least, then-n-least-via-else-n-least+then-n-most}

from_long : (least most : ℤ) (word : List ℕ) (o : Option ℤ) → (pos 0 -ℤ pos (2 ^ 63)) ≤ℤ least → most ≤ℤ (pos (2 ^ 63) -ℤ pos 1)
    → o ≡ option_and_then as_long (integer_of word) → option_and_then (within least most) o ≡ integer_in least most word
from_long least most word o low high e = ap (λ (x : Option ℤ). option_and_then (within least most) x) e ∙ narrowed least most (integer_of word) low high

pub returns-in_err-n-clause-number : goal.returns-in_err-n-clause-number
returns-in_err-n-clause-number c = c.from_residual.ensures ∙ from_long c.args.least c.args.most c.args.word.now None (omega (arith, ints)) (omega (arith, ints)) c.in_err-n.ensures

pub returns-then-n-least-clause-number : goal.returns-then-n-least-clause-number
returns-then-n-least-clause-number c =
    let e = from_long c.args.least c.args.most c.args.word.now (Some c.in_ok-n.n) (omega (arith, ints)) (omega (arith, ints)) c.in_ok-n.ensures in
    elim c.then-n-least.branch [
      | then-n-least-via-then-n-least w ↦ sym (is_below c.args.least c.args.most c.in_ok-n.n (omega (arith, ints))) ∙ e
      | then-n-least-via-else-n-least+then-n-most w ↦ sym (is_above c.args.least c.args.most c.in_ok-n.n (omega (arith, ints))) ∙ e
    ]

pub returns-clause-number : goal.returns-clause-number
returns-clause-number c =
    let e = from_long c.args.least c.args.most c.args.word.now (Some c.in_ok-n.n) (omega (arith, ints)) (omega (arith, ints)) c.in_ok-n.ensures in
    let same : to_z w64 (of_z w64 c.in_ok-n.n) ≡ c.in_ok-n.n = omega (arith, ints) in
    ap (λ (z : ℤ). Some z) same ∙ sym (is_within c.args.least c.args.most c.in_ok-n.n (omega (arith, ints)) (omega (arith, ints))) ∙ e

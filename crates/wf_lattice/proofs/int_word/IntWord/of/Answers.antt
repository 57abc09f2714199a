use Rattle.std.proofs.Common.{◌≡◌, ◌∙◌, ap, ℕ, ℤ, ◌-◌, ◌*◌, ◌+◌, ◌^◌, w32, to_z-of_z}
use Rattle.std.specs.Int.{cast_unsigned}
use Rattle.wf_lattice.specs.declared.int_word.IntValue.TheVariants.{Is}
use Rattle.wf_lattice.specs.Ints.{int_value}
use Rattle.wf_lattice.proofs.IntLaws.{value_of_constant, settled_if_constant}
use Rattle.wf_lattice.proofs.int_word.IntWord.of.Goals as goal

value : (c : goal.After-cast_unsigned-low) → int_value ((2 ^ 32 - 1 - c.cast_unsigned-low.result) * 2 ^ 32 + c.cast_unsigned-low.result) ≡ Is c.args.value
value c =
    ap (λ (l : ℕ). int_value ((2 ^ 32 - 1 - l) * 2 ^ 32 + l)) (c.cast_unsigned-low.ensures ∙ ap (λ (z : ℤ). cast_unsigned w32 z) (to_z-of_z c.ranges.value))
    ∙ value_of_constant c.args.value c.ranges.value

pub returns-clause-value : goal.returns-clause-value
returns-clause-value c = value c

pub returns-clause-settled : goal.returns-clause-settled
returns-clause-settled c = settled_if_constant ((2 ^ 32 - 1 - c.cast_unsigned-low.result) * 2 ^ 32 + c.cast_unsigned-low.result) c.args.value (value c)

-- Bounds of the numbers of targets.
use Rattle.std.proofs.Common.{◌≡◌, ℕ, ◌+◌, ◌*◌, ◌<◌, ◌≤◌, inl, inr, Bool, false, ap, arith}
use Rattle.std.specs.Prelude.{nat_le, if◌then◌else◌}
use Rattle.std.proofs.Math.Nat.{mul-le-mul_right, suc-mul}
use Rattle.std.proofs.lemmas.Bool.{cases_lt}
use Rattle.std.proofs.lemmas.Bool.Decides.{leb_tells}
use Rattle.wf_subtype.specs.declared.reference.Reference.{Reference}
use Rattle.wf_subtype.specs.References.{inner_number, target_number, target_count}
use Rattle.wf_subtype.proofs.RowBits.{target_below}

not_le : (m n : ℕ) → n < m → nat_le m n ≡ false
not_le m n l = elim (leb_tells m n) [ inl a ↦ absurd (omega (arith, a.1, l)) | inr b ↦ b.0 ]

pub suc_le : (m n : ℕ) → m ≤ n → m < n + 1
suc_le m n l = omega (arith, l)

-- arrays of more dimensions than the types have share the last number
pub target_above : (classes deepest : ℕ) (r : Reference) → deepest < r.dims → target_number classes deepest r ≡ (deepest + 1) * (classes + 8)
target_above classes deepest r d = ap (λ (t : Bool). if t then r.dims * (classes + 8) + inner_number classes r.inner else (deepest + 1) * (classes + 8)) (not_le r.dims deepest d)

-- each number is one of so many
pub number_within : (classes deepest : ℕ) (r : Reference) → inner_number classes r.inner < classes + 8 → target_number classes deepest r < target_count classes deepest
number_within classes deepest r h = elim (cases_lt deepest r.dims) [
  | inl d ↦ omega (arith, target_above classes deepest r d)
  | inr l ↦ omega (arith, target_below classes deepest r l, h, suc-mul r.dims (classes + 8), mul-le-mul_right (classes + 8) (suc_le r.dims deepest l))
]

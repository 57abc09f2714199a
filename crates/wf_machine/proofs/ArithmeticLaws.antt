-- Arithmetic is exact, and of what is too large the lowest bits are left.
use Rattle.std.proofs.Common.{◌≡◌, ◌≢◌, ℕ, ◌<◌, ◌^◌, false, refl, sym, ap, ◌∙◌, arith, pos, negsuc, ℤ, Some, None, inl, inr}
use Rattle.std.specs.Prelude.{int_div, int_rem}
use Rattle.std.specs.Ordering.{int_eq}
use Rattle.std.specs.Int.{Width, w8, w16, w32, w64, w128, cast_unsigned, cast_signed, int_wrap, int_div_euclid, int_shl, int_shr}
use Rattle.std.specs.Int.RustNames.{FitsSigned}
use mir.Val.{bits}
use lib.IntN.{◌*ℤ◌}
use Rattle.std.proofs.Math.Nat.{mod-eq_of_lt}
use Rattle.std.proofs.Math.Facts.{Fits-of_z, Fits-lt-pow}
use Rattle.std.proofs.Math.Pow.{pow-lt}
use Rattle.std.proofs.lemmas.Nat.{mod_below}
use Rattle.std.proofs.lemmas.Bool.{cases_Bool}
use Rattle.std.proofs.lemmas.Bool.Decides.{Decides-int_eq}
use Rattle.std.proofs.lemmas.Int.{to_z-of_z, wrapping_mul-bits, int_wrap-mul_right}
use Rattle.wf_operation.specs.declared.sort.Arithmetic.TheVariants.{Divide, Remainder}
use Rattle.wf_operation.specs.declared.sort.Shift.TheVariants.{Left, Right}
use Rattle.wf_machine.specs.Arithmetic.{combined, shifted, distance}

-- ---- shifts

-- a power of 2 that the width holds is its own lowest bits
power_wraps : (w : Width) (k : ℕ) → 2 ^ k < 2 ^ bits w → int_wrap w (pos (2 ^ k)) ≡ cast_signed w (2 ^ k)
unfolding int_wrap
power_wraps w k h = ap (λ n. cast_signed w n) (mod-eq_of_lt h)

below : (w : Width) (a : ℤ) → FitsSigned w a → cast_unsigned w a < 2 ^ bits w
below w a f = Fits-lt-pow (Fits-of_z f)

shl_is : (w : Width) (a : ℤ) (k : ℕ) → FitsSigned w a → 2 ^ k < 2 ^ bits w → int_shl w a k ≡ int_wrap w (a *ℤ pos (2 ^ k))
shl_is w a k f h =
    wrapping_mul-bits w (cast_unsigned w a) (2 ^ k) (below w a f) h
    ∙ ap (λ (z : ℤ). int_wrap w (z *ℤ cast_signed w (2 ^ k))) (to_z-of_z w a f)
    ∙ ap (λ (z : ℤ). int_wrap w (a *ℤ z)) (sym (power_wraps w k h))
    ∙ int_wrap-mul_right w a (pos (2 ^ k))

positive : (w : Width) → 0 < bits w
positive w8 = omega arith
positive w16 = omega arith
positive w32 = omega arith
positive w64 = omega arith
positive w128 = omega arith

pub left_is : (w : Width) (a b : ℤ) → FitsSigned w a → shifted w Left a b ≡ int_wrap w (a *ℤ pos (2 ^ distance w b))
left_is w a b f = shl_is w a (distance w b) f (pow-lt (mod_below (cast_unsigned w b) (bits w) (positive w)))

shr_is : (a : ℤ) (k : ℕ) → int_shr a k ≡ int_div_euclid a (pos (2 ^ k))
shr_is (pos a) k = refl
shr_is (negsuc a) k = refl

pub right_is : (w : Width) (a b : ℤ) → shifted w Right a b ≡ int_div_euclid a (pos (2 ^ distance w b))
right_is w a b = shr_is a (distance w b)

-- ---- quotients and remainders

is_not_zero : (b : ℤ) → b ≢ pos 0 → int_eq b (pos 0) ≡ false
is_not_zero b other = elim (cases_Bool (int_eq b (pos 0))) [ inl same ↦ absurd (other ((Decides-int_eq b (pos 0)).0 same)) | inr differ ↦ differ ]

pub quotient_is : (w : Width) (a b : ℤ) → b ≢ pos 0 → FitsSigned w (int_div a b) → combined w Divide a b ≡ Some (int_div a b)
quotient_is w a b other f = rw (is_not_zero b other) (ap Some (to_z-of_z w (int_div a b) f))

pub remainder_is : (w : Width) (a b : ℤ) → b ≢ pos 0 → combined w Remainder a b ≡ Some (int_rem a b)
remainder_is w a b other = rw (is_not_zero b other) refl

pub no_quotient : (w : Width) (a : ℤ) → combined w Divide a (pos 0) ≡ None
no_quotient w a = refl

pub no_remainder : (w : Width) (a : ℤ) → combined w Remainder a (pos 0) ≡ None
no_remainder w a = refl

pub least_int : combined w32 Divide (negsuc 2147483647) (negsuc 0) ≡ Some (negsuc 2147483647)
least_int = refl

pub least_long : combined w64 Divide (negsuc 9223372036854775807) (negsuc 0) ≡ Some (negsuc 9223372036854775807)
least_long = refl

-- What a value of references means under the types that are made: a set means those of its types that are made, and
-- null where it holds null; a saturated value means all types that are made, and null (after SkipFlow).
use Rattle.std.specs.Prelude.{ℕ, zero, suc, Bool, ◌&&◌, ◌||◌, if◌then◌else◌, bit_and}
use Rattle.wf_lattice.specs.Words.{has_bit, has_type, types_of}
use Rattle.wf_lattice.specs.Order.{is_saturated}

-- whether the meaning has null
abbrev pub means_null : ℕ → ℕ → (ℕ → ℕ) → Bool
means_null most n v = is_saturated most n v || has_bit v 1

-- whether the meaning has the type, which is null where its number is 0
abbrev pub means : ℕ → ℕ → (ℕ → ℕ) → (ℕ → ℕ) → ℕ → Bool
means most n v inst zero = means_null most n v
means most n v inst (suc t) = (is_saturated most n v || has_type v (suc t)) && has_type inst (suc t)

-- the row of the types of the meaning, once it is known whether the value is saturated
abbrev pub types_if : Bool → (ℕ → ℕ) → (ℕ → ℕ) → ℕ → ℕ
types_if saturated v inst = types_of (λ k. (if saturated then inst k else bit_and (v k) (inst k)))

-- the row of the types of the meaning
abbrev pub meant_types : ℕ → ℕ → (ℕ → ℕ) → (ℕ → ℕ) → ℕ → ℕ
meant_types most n v inst = types_if (is_saturated most n v) v inst

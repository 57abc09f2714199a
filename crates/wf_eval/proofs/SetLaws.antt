-- Sets of types, word by word.
use Rattle.std.proofs.Common.{◌≡◌, ◌≢◌, ℕ, zero, suc, ◌+◌, ◌&&◌, ◌||◌, Bool, true, false, if◌then◌else◌, bit_and, refl, sym, ap, ◌∙◌, subst}
use Rattle.std.specs.Int.{bit_not, w64}
use Rattle.std.proofs.lemmas.Bool.{cond-true, cond-false}
use Rattle.wf_lattice.specs.Words.{IsIn, words_of, has_bit, has_type, types_of}
use Rattle.wf_lattice.proofs.BitLaws.{in_itself, in_through, and_grows}
use Rattle.wf_system.specs.declared.side.Side.{Side}
use Rattle.wf_eval.specs.declared.plan.Meaning.{Meaning}
use Rattle.wf_eval.specs.declared.plan.Mask.{Mask}
use Rattle.wf_eval.specs.declared.plan.Mask.TheVariants.{All, Under, NotUnder, Picking, AlsoIn}
use Rattle.wf_eval.specs.declared.plan.TypeSet.{TypeSet}
use Rattle.wf_eval.specs.Said.{Seen, SaidWord}
use Rattle.wf_eval.specs.Reading.{span_row}
use Rattle.wf_eval.specs.Plans.{meant_row, source_row, picking_row, masked, set_row, means_if, has_meaning}
use Rattle.wf_eval.proofs.SaidLaws.{said_then, said_so, said_same}

-- what a mask leaves grows with the word
masked_rises : (side : Side) (mask : Mask) (x : ℕ → ℕ) (k u v : ℕ) → IsIn u v → IsIn (masked side mask x k u) (masked side mask x k v)
masked_rises side All x k u v p = p
masked_rises side (Under c) x k u v p = and_grows u (words_of (Rattle.std.specs.Prelude.slice_index_or side.masks c.0 Rattle.std.specs.Prelude.[]) k) v (words_of (Rattle.std.specs.Prelude.slice_index_or side.masks c.0 Rattle.std.specs.Prelude.[]) k) p (in_itself (words_of (Rattle.std.specs.Prelude.slice_index_or side.masks c.0 Rattle.std.specs.Prelude.[]) k))
masked_rises side (NotUnder c) x k u v p = and_grows u (bit_not w64 (words_of (Rattle.std.specs.Prelude.slice_index_or side.masks c.0 Rattle.std.specs.Prelude.[]) k)) v (bit_not w64 (words_of (Rattle.std.specs.Prelude.slice_index_or side.masks c.0 Rattle.std.specs.Prelude.[]) k)) p (in_itself (bit_not w64 (words_of (Rattle.std.specs.Prelude.slice_index_or side.masks c.0 Rattle.std.specs.Prelude.[]) k)))
masked_rises side (Picking site j) x k u v p = and_grows u (picking_row side site j k) v (picking_row side site j k) p (in_itself (picking_row side site j k))
masked_rises side (AlsoIn m) x k u v p = and_grows u (types_of (meant_row m x) k) v (types_of (meant_row m x) k) p (in_itself (types_of (meant_row m x) k))

-- a word of a set that is there
pub said_set : (side : Side) (set : TypeSet) {a b c : Seen} (k v w : ℕ) → set.there ≡ true → SaidWord (λ x. types_of (source_row set.from x) k) a b v → SaidWord (λ x. masked side set.mask x k v) b c w
    → SaidWord (λ x. set_row side set x k) a c w
said_set side set {a} {b} {c} k v w there p q = said_same
    (λ x. sym (cond-true set.there (masked side set.mask x k (types_of (source_row set.from x) k)) 0 there))
    (said_then p q
    (λ x h i. in_through (masked side set.mask x k (types_of (source_row set.from x) k)) (masked side set.mask x k v) w (masked_rises side set.mask x k (types_of (source_row set.from x) k) v h) i)
    (λ x h i. in_through w (masked side set.mask x k v) (masked side set.mask x k (types_of (source_row set.from x) k)) i (masked_rises side set.mask x k v (types_of (source_row set.from x) k) h)))

-- a word of a meaning that isn't saturated
pub said_meant : (m : Meaning) {a b : Seen} (k w : ℕ) → m.saturated ≡ false → SaidWord (λ x. bit_and (span_row x m.of k) (span_row x m.made k)) a b w → SaidWord (λ x. meant_row m x k) a b w
said_meant m {a} {b} k w e p = said_same (λ x. sym (cond-false m.saturated (span_row x m.made k) (bit_and (span_row x m.of k) (span_row x m.made k)) e)) p

-- a type other than null is in a meaning where the value has its bit, and what is made has it
pub means_parts : (s : Bool) (v inst : ℕ → ℕ) (t : ℕ) → t ≢ 0 → means_if s v inst t ≡ ((s || has_bit v (t + 1)) && has_bit inst (t + 1))
means_parts s v inst zero some = absurd (some refl)
means_parts s v inst (suc t) some = refl

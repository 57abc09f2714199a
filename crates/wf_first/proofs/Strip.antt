-- Taking the beginning of a text away.
use Rattle.std.proofs.Common.{◌≡◌, ℕ, ◌+◌, ◌<◌, true, false, ◌&&◌, cond, eqb, List, [], ◌∷◌, ◌++◌, length, get_or, drop, Option, Some, None, refl, sym, ap, ◌∙◌, add-one, drop-cons}
use Rattle.std.specs.Prelude.{option_and_then}
use Rattle.std.proofs.Math.Dec.{eqb-suc-zero}
use Rattle.std.specs.Str.{bytes_eq}
use Rattle.wf_names.specs.NameForm.{escaped_byte, escaped}
use Rattle.wf_first.specs.Stripping.{strip}

-- one beginning and then another
pub strip_append : (a b text : List ℕ) → strip (a ++ b) text ≡ option_and_then (strip b) (strip a text)
strip_append [] b text = refl
strip_append (x ∷ a) b [] = refl
strip_append (x ∷ a) b (c ∷ text) = elim (eqb c x) as (λ v. cond v (strip (a ++ b) text) None ≡ option_and_then (strip b) (cond v (strip a text) None)) [ true ↦ strip_append a b text | false ↦ refl ]

-- the next byte of a name
pub goes_on : (name text : List ℕ) (i : ℕ) (total : Option (List ℕ)) → i < length name → strip (escaped (drop i name)) text ≡ total
    → option_and_then (strip (escaped (drop (i + 1) name))) (strip (escaped_byte (get_or name i 0)) text) ≡ total
goes_on name text i total lt so_far =
    let e : drop i name ≡ get_or name i 0 ∷ drop (i + 1) name = rw (add-one, drop-cons name i 0) refl in
    sym (strip_append (escaped_byte (get_or name i 0)) (escaped (drop (i + 1) name)) text) ∙ ap (λ (n : List ℕ). strip (escaped n) text) (sym e) ∙ so_far

-- a text that is the beginning, and nothing more
pub whole_some : (front text rest : List ℕ) → strip front text ≡ Some rest → eqb (length rest) 0 ≡ bytes_eq text front
whole_some [] [] rest e = let same : rest ≡ [] = cc in rw same refl
whole_some [] (c ∷ text) rest e = let same : rest ≡ c ∷ text = cc in rw same (eqb-suc-zero (length text))
whole_some (b ∷ front) [] rest e = absurd cc
whole_some (b ∷ front) (c ∷ text) rest e =
    elim (eqb c b) as (λ v. cond v (strip front text) None ≡ Some rest → eqb (length rest) 0 ≡ (v && bytes_eq text front)) [
      | true ↦ λ h. whole_some front text rest h
      | false ↦ λ h. absurd (nothing rest h)
    ] e
  where
    nothing : (rest : List ℕ) → None ≡ Some rest → ⊥
    nothing rest h = cc

pub whole_none : (front text : List ℕ) → strip front text ≡ None → false ≡ bytes_eq text front
whole_none [] text e = absurd (something text e)
  where
    something : (text : List ℕ) → Some text ≡ None → ⊥
    something text h = cc
whole_none (b ∷ front) [] e = refl
whole_none (b ∷ front) (c ∷ text) e =
    elim (eqb c b) as (λ v. cond v (strip front text) None ≡ None → false ≡ (v && bytes_eq text front)) [
      | true ↦ λ h. whole_none front text h
      | false ↦ λ h. refl
    ] e

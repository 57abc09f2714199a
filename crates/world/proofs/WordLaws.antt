-- Words by their number.
use Rattle.std.proofs.Common.{◌≡◌, ◌<◌, ◌≤◌, List, [], ◌∷◌, length, get_or, sym, ap, ◌∙◌, arith}

-- three elements are the list
pub three : {X : Type 0} (xs : List X) (a b c : X) → 3 ≤ length xs → length xs < 4 → a ≡ get_or xs 0 a → b ≡ get_or xs 1 b → c ≡ get_or xs 2 c → xs ≡ a ∷ b ∷ c ∷ []
three [] a b c few many p q r = absurd (omega (arith, few))
three (x ∷ []) a b c few many p q r = absurd (omega (arith, few))
three (x ∷ y ∷ []) a b c few many p q r = absurd (omega (arith, few))
three (x ∷ y ∷ z ∷ []) a b c few many p q r = sym (ap (λ t. t ∷ b ∷ c ∷ []) p ∙ ap (λ t. x ∷ t ∷ c ∷ []) q ∙ ap (λ t. x ∷ y ∷ t ∷ []) r)
three (x ∷ y ∷ z ∷ w ∷ xs) a b c few many p q r = absurd (omega (arith, many))

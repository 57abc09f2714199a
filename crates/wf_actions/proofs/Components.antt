-- Components of arrays, one after another.
use Rattle.std.proofs.Common.{◌≡◌, ℕ, zero, suc, ◌<◌, List, [], ◌∷◌, ◌++◌, drop, Some, None, ap, arith}
use Rattle.std.specs.Prelude.{option_and_then}
use Rattle.wf_base.specs.declared.ids.TypeId.{TypeId}
use Rattle.wf_subtype.specs.Subtypes.{AllTypes}
use Rattle.wf_actions.specs.Named.{type_named, with_components}

-- a component that isn't a type
pub missing : (types : AllTypes) (found : List TypeId) (n : ℕ) (name : List ℕ) → 0 < n → type_named types (drop 1 name) ≡ None → with_components types found n name ≡ None
missing types found zero name l e = absurd (omega (arith, l))
missing types found (suc n) name l e = ap (λ o. option_and_then (λ t. with_components types (found ++ t ∷ []) n (drop 1 name)) o) e

-- one component more
pub more : (types : AllTypes) (found : List TypeId) (n : ℕ) (name : List ℕ) (t : TypeId) → type_named types (drop 1 name) ≡ Some t → with_components types found (suc n) name ≡ with_components types (found ++ t ∷ []) n (drop 1 name)
more types found n name t e = ap (λ o. option_and_then (λ u. with_components types (found ++ u ∷ []) n (drop 1 name)) o) e

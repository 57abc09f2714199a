use Rattle.std.proofs.Common.{◌≡◌, List, ℕ, sym, subst, Some}
use Rattle.std.specs.Prelude.{slice_get}
use Rattle.wf_subtype.specs.Subtypes.{IsNameOfSome}
use Rattle.wf_subtype.proofs.TypeFacts.{all_named}
use Rattle.wf_subtype.proofs.types.types_of.Goals as goal

pub references_of-requires-clause-named : goal.references_of-requires-clause-named
references_of-requires-clause-named c =
    subst (λ (xs : List (List ℕ)). (i : ℕ) (name : List ℕ) → slice_get xs i ≡ Some name → IsNameOfSome c.args.classes name) (sym c.as_slice-2.ensures.value)
    (all_named c.args.classes c.as_slice.result.now c.in_ok-names.names.items c.in_ok-names.ensures)

use Rattle.std.proofs.Common.{◌≡◌, ℕ, true, List, subst, sym}
use Rattle.wf_binding.specs.Valid.{IsSoundRoot}
use Rattle.wf_binding.specs.Validity.{has_constructor}
use Rattle.wf_binding.proofs.ValidLines.{made_sound}
use Rattle.wf_binding.proofs.numbering.root_numbers.Goals as goal

pub made_numbers-requires-clause-constructor : goal.made_numbers-requires-clause-constructor
made_numbers-requires-clause-constructor c =
    subst (λ (name : List ℕ). has_constructor c.args.types.now.classes name ≡ true) (sym c.as_slice-in-Make.ensures)
    (made_sound c.args.types.now c.in-Make.name (subst (IsSoundRoot c.args.types.now) c.in-Make.is c.requires))

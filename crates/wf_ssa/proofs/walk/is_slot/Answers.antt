use Rattle.std.proofs.Common.{◌≡◌, ℕ, None, Some, sym, ap, ◌∙◌}
use Rattle.std.specs.Prelude.{nat_lt}
use Rattle.wf_ssa.proofs.BackLemmas.{known_count}
use Rattle.wf_ssa.proofs.walk.is_slot.Goals as goal

some_is : {x y : ℕ} → Some x ≡ Some y → x ≡ y
some_is e = cc

never : {x : ℕ} → None ≡ Some x → ⊥
never e = cc

pub returns-in-Some-clause-value : goal.returns-in-Some-clause-value
returns-in-Some-clause-value c =
    λ failing k there. ap (nat_lt c.args.slot) (some_is (sym c.in-Some.is ∙ known_count c.args.blocks.now failing c.args.place k c.slots.result c.slots.ensures.every c.slots.ensures.reached there))

pub returns-in-None-clause-value : goal.returns-in-None-clause-value
returns-in-None-clause-value c =
    λ failing k there. absurd (never (sym c.in-None.is ∙ known_count c.args.blocks.now failing c.args.place k c.slots.result c.slots.ensures.every c.slots.ensures.reached there))

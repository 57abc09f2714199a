use Rattle.std.proofs.Common.{◌≡◌, ◌∙◌, true, false, sym, refl}
use Rattle.std.proofs.lemmas.Bool.{both_ways}
use Rattle.wf_binding.specs.Validity.{CanStart, of_kind}
use Rattle.wf_binding.proofs.starts.start_word.Goals as goal

pub returns-else-branch : goal.returns-else-branch
returns-else-branch c =
    of_kind c.in-Some.own.flags refl (sym c.in-Some.ensures.flags) (λ can. both_ways _ c.if-branch.false (c.in_ok-can_start-in-Some.ensures.1 can))

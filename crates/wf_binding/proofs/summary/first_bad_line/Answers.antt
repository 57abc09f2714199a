use Rattle.std.proofs.Common.{List, sym, subst}
use Rattle.wf_inputs.specs.declared.summary.Block.{Block}
use Rattle.wf_inputs.specs.declared.summary.Literal.{Literal}
use Rattle.wf_binding.specs.First.{IsFirst}
use Rattle.wf_binding.specs.Validity.{IsBadBlock, IsBadLiteral, IsBadLine, Somewhere}
use Rattle.wf_binding.proofs.SummaryLines.{summary_first}
use Rattle.wf_binding.proofs.summary.first_bad_line.Goals as goal

pub returns : goal.returns
returns c =
    let classes = c.args.classes.now in
    let s = c.args.summary.now in
    let a = c.in_ok-of_block.of_block in
    let b = c.first_bad_literal-of_literal.result in
    subst (IsFirst (IsBadLine classes s)) (sym c.earlier_of.ensures)
    (summary_first classes s a b (subst (λ (xs : List Block). IsFirst (Somewhere (IsBadBlock classes xs)) a) c.as_slice.ensures c.in_ok-of_block.ensures)
    (subst (λ (xs : List Literal). IsFirst (Somewhere (IsBadLiteral classes xs)) b) c.as_slice-2.ensures c.first_bad_literal-of_literal.ensures))

use Rattle.std.proofs.Common.{ℕ, ◌+◌, ◌==◌, sym, ap, ◌∙◌}
use Rattle.std.proofs.lemmas.List.Splits.{length-slice_split}
use Rattle.wf_lines.proofs.lines.word_count.Goals as goal

pub returns : goal.returns
returns c = ap (λ (n : ℕ). n + 1) c.space_count.ensures.spaces ∙ sym (length-slice_split (λ b. b == 32) c.args.line.now)

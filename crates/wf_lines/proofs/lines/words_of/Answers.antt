use Rattle.std.proofs.Common.{ℕ, List, [], ◌∷◌, ◌++◌, sym, ap, ◌∙◌}
use Rattle.wf_lines.proofs.Cutting.{last_word}
use Rattle.wf_lines.proofs.lines.words_of.Goals as goal

pub returns : goal.returns
returns c =
    c.in_ok-push-2.ensures.items ∙ ap (λ (w : List ℕ). c.loop-i.words.items ++ w ∷ []) c.in_ok-from_slice-2.ensures
    ∙ last_word c.loop-i.words.items c.loop-i.rest.now _ (sym c.in_default.ensures.first) c.loop-i.invariant.0

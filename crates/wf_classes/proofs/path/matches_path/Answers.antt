use Rattle.std.proofs.Common.{◌≡◌, ◌∙◌, ap, sym, ◌++◌, codes, Some}
use Rattle.std.proofs.lemmas.Bool.Decides.{Decides-eqb}
use Rattle.std.proofs.lemmas.List.{append_cancel_right}
use Rattle.std.proofs.lemmas.Slice.Eq.{slice_eq-Decides, strip_suffix_is}
use Rattle.wf_classes.proofs.path.matches_path.Goals as goal

pub returns-in-Some : goal.returns-in-Some
returns-in-Some c =
    let tail = c.as_slice.result.now in
    let suffix = codes ".class" in
    let split : c.args.below.now ≡ c.in-Some.name.now ++ suffix = strip_suffix_is Decides-eqb c.args.below.now tail (Some c.in-Some.name) c.in-Some.ensures.cases ∙ ap (λ xs. c.in-Some.name.now ++ xs) c.as_slice.ensures in
    let same = slice_eq-Decides Decides-eqb c.in-Some.name.now c.as_slice-in-Some.result.now c.eq.result c.eq.ensures in (
      λ t. split ∙ ap (λ xs. xs ++ suffix) (same.0 t ∙ c.as_slice-in-Some.ensures),
      λ e. same.1 (append_cancel_right c.in-Some.name.now c.as_slice-in-Some.result.now suffix (sym split ∙ e ∙ ap (λ xs. xs ++ suffix) (sym c.as_slice-in-Some.ensures))),
    )

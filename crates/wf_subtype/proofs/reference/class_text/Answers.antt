use Rattle.std.proofs.Common.{◌≡◌, ◌∙◌, ◌∷◌, ◌++◌, List, ℕ, ap, subst, Some}
use Rattle.std.specs.Prelude.{MatchOption}
use Rattle.std.proofs.lemmas.Bool.Decides.{Decides-eqb}
use Rattle.std.proofs.lemmas.Slice.Eq.{strip_prefix_is, strip_suffix_is}
use Rattle.wf_subtype.proofs.Naming.{class_text_is}
use Rattle.wf_subtype.proofs.reference.class_text.Goals as goal

pub returns-in-Some : goal.returns-in-Some
returns-in-Some c =
    let text = c.args.text.now in
    let rest = c.in-Some.rest.now in
    let front : text ≡ 76 ∷ rest = strip_prefix_is Decides-eqb text c.as_slice.result.now (Some c.in-Some.rest) c.in-Some.ensures.cases ∙ ap (λ (xs : List ℕ). xs ++ rest) c.as_slice.ensures in
    let back = strip_suffix_is Decides-eqb rest c.as_slice-in-Some.result.now c.strip_suffix.result c.strip_suffix.ensures.cases in
    class_text_is text rest c.strip_suffix.result front (subst (λ (p : List ℕ). MatchOption c.strip_suffix.result ((f : List ℕ) → rest ≡ f ++ p → ⊥) (λ x. rest ≡ x.now ++ p)) c.as_slice-in-Some.ensures back)

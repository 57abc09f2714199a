-- The rows of one element more, where rows of a list are added one behind the other.
use Rattle.std.proofs.Common.{◌≡◌, ℕ, ◌+◌, ◌<◌, List, ◌∷◌, ◌++◌, length, get_or, drop, Option, sym, ap, ◌∙◌, append_assoc, add-one, drop-cons}
use Rattle.std.proofs.lemmas.Grind.{flat_map-append}
use Rattle.wf_base.specs.declared.ids.NodeId.{NodeId}
use Rattle.wf_system.specs.declared.inequality.Inequality.{Inequality}
use Rattle.wf_rows.specs.declared.node.Node.{Node}
use Rattle.wf_rows.specs.declared.node.Own.{Own}
use Rattle.wf_rows.specs.Each.{each_from}
use Rattle.wf_rows.specs.Renaming.{listed, all_renamed}

pub added_next : {A : Type 0} (number : Node Own → Option NodeId) (f : ℕ → A → List (Inequality (Node Own))) (xs : List A) (j : ℕ) (d : A) (old new total : List (Inequality NodeId))
    → j < length xs → new ≡ old ++ all_renamed number (f j (get_or xs j d)) → old ++ all_renamed number (each_from f j (drop j xs)) ≡ total
    → new ++ all_renamed number (each_from f (j + 1) (drop (j + 1) xs)) ≡ total
added_next {A} number f xs j d old new total h e k =
    let x : A = get_or xs j d in
    let rest : List A = drop (j + 1) xs in
    let parts : drop j xs ≡ x ∷ rest = rw add-one (drop-cons xs j d h) in
    ap (λ (l : List (Inequality NodeId)). l ++ all_renamed number (each_from f (j + 1) rest)) e
    ∙ append_assoc old (all_renamed number (f j x)) (all_renamed number (each_from f (j + 1) rest))
    ∙ ap (λ (l : List (Inequality NodeId)). old ++ l) (sym (flat_map-append (listed number) (f j x) (each_from f (j + 1) rest)))
    ∙ ap (λ (l : List A). old ++ all_renamed number (each_from f j l)) (sym parts)
    ∙ k

use Rattle.std.proofs.Common.{List, ℕ, sym, subst, rules}
use Rattle.std.specs.Cmp.Lexicographic.{slice_cmp}
use Rattle.std.specs.Ordering.{nat_cmp}
use Rattle.std.specs.Str.{bytes_eq}
use Rattle.std.proofs.lemmas.Cmp.{nat_list_cmp_total}
use Rattle.std.proofs.lemmas.Fn.{always_returns_same}
use Rattle.std.proofs.lemmas.List.{map-id}
use Rattle.std.proofs.lemmas.Map.Text.{is_eq-slice_cmp}
use Rattle.wf_classes.specs.World.{IsAscending}
use Rattle.wf_classes.proofs.Search.{found_place, no_place}
use Rattle.wf_subtype.proofs.types.name_place.Goals as goal

pub returns-in-Ok : goal.returns-in-Ok
returns-in-Ok c =
    let name = c.args.name.now in
    let names = c.args.names.now in
    sym (found_place nat_list_cmp_total (λ (n : List ℕ). n) names name c.in-Ok.i (λ (n : List ℕ). bytes_eq n name) (λ n. sym (is_eq-slice_cmp n name)) (subst IsAscending (sym (map-id names)) c.requires) c.in-Ok.ensures.bound
    (c.in-Ok.ensures.position (λ n. slice_cmp nat_cmp n name) (always_returns_same _ _ _ (λ a r g h. search rules))))

pub returns-in-Err : goal.returns-in-Err
returns-in-Err c =
    let name = c.args.name.now in
    let names = c.args.names.now in
    sym (no_place nat_list_cmp_total (λ (n : List ℕ). n) names name c.in-Err.field-0 (λ (n : List ℕ). bytes_eq n name) (λ n. sym (is_eq-slice_cmp n name))
    (c.in-Err.ensures.position (λ n. slice_cmp nat_cmp n name) (always_returns_same _ _ _ (λ a r g h. search rules))) (subst IsAscending (sym (map-id names)) c.requires))

use Rattle.std.proofs.Common.{◌≡◌, ◌∙◌, List, ℕ, refl, sym, ap, subst}
use Rattle.std.specs.BTreeSet.{insert_key}
use Rattle.std.specs.Cmp.Lexicographic.{slice_cmp}
use Rattle.std.specs.Ordering.{nat_cmp}
use Rattle.wf_subtype.specs.Universe.{InsertsArrays}
use Rattle.wf_subtype.proofs.Collecting.{array_added}
use Rattle.wf_subtype.proofs.universe.insert_array.Goals as goal

pub returns-in_ok-insert : goal.returns-in_ok-insert
returns-in_ok-insert c =
    let classes = c.args.classes.now in
    let name = c.args.name.now in
    let old = c.args.types.now.keys in
    subst (λ (new : List (List ℕ)). InsertsArrays classes old new (λ n. n ≡ name)) (sym (c.in_ok-insert.ensures.keys ∙ ap (insert_key (slice_cmp nat_cmp) old) c.in_ok-from_slice.ensures)) (array_added classes old name (c.if-is_array.ensures.some refl))

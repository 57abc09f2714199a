use Rattle.std.proofs.Common.{◌≡◌, ◌∙◌, List, ℕ, sym, subst}
use Rattle.std.specs.BTreeSet.{insert_key}
use Rattle.std.specs.Cmp.Lexicographic.{slice_cmp}
use Rattle.std.specs.Ordering.{nat_cmp}
use Rattle.wf_subtype.specs.Universe.{Inserts, HasObjects}
use Rattle.wf_subtype.proofs.Collecting.{insert_adds, plain_alike}
use Rattle.wf_subtype.proofs.universe.insert_if_instantiable.Goals as goal

pub returns : goal.returns
returns c =
    let old = c.args.types.now.keys in
    let name = c.in_ok-clone.field-0 in
    let class = c.args.class.now in
    subst (λ (new : List (List ℕ)). Inserts old new (HasObjects class)) (sym c.in_ok-insert.ensures.keys)
    (plain_alike old (insert_key (slice_cmp nat_cmp) old name) (λ t. t ≡ name) (HasObjects class)
    (λ t e. record { named = sym (e ∙ c.in_ok-clone.ensures.cases); not_abstract = sym c.if-is_abstract.ensures; is_class = sym c.if-is_interface.ensures })
    (λ t h. sym (c.in_ok-clone.ensures.cases ∙ h.named)) (insert_adds old name))

use Rattle.std.proofs.Common.{◌∙◌, List, ℕ, [], sym, subst}
use Rattle.wf_data.specs.declared.class_info.ClassInfo.{ClassInfo}
use Rattle.wf_subtype.specs.Universe.{Inserts, InsertsArrays, IsInstantiable, IsAmong}
use Rattle.wf_subtype.proofs.Making.{universe_is, empty_list}
use Rattle.wf_subtype.proofs.universe.type_names.Goals as goal

pub returns : goal.returns
returns c =
    let classes = c.args.classes.now in
    let named = c.args.named.now in
    let first = c.insert_instantiable.new.types.keys in
    let second = c.insert_classes.new.types.keys in
    universe_is classes named first second c.in_ok-in_order.field-0.items
    (subst (λ (ks : List ClassInfo). Inserts [] first (IsInstantiable ks)) (c.as_slice.ensures ∙ c.list.ensures.same)
    (subst (λ (xs : List (List ℕ)). Inserts xs first (IsInstantiable c.as_slice.result.now)) (empty_list c.new-types.result.keys c.new-types.ensures.len) c.in_ok-insert_instantiable.ensures))
    c.in_ok-insert_classes.ensures
    (subst (λ (xs : List (List ℕ)). InsertsArrays classes second xs (IsAmong named)) (sym c.in_ok-in_order.ensures.keys) c.in_ok-insert_named.ensures)
    c.in_ok-in_order.ensures.ascending

use Rattle.std.proofs.Common.{◌≡◌, ◌<◌, ◌≤◌, ℕ, List, ap, sym, subst, length, get_or, arith}
use Rattle.wf_data.specs.declared.class_info.ClassInfo.{ClassInfo}
use Rattle.wf_classes.specs.Closing.{Closes}
use Rattle.wf_classes.specs.Links.{AreLinks, AreMembers}
use Rattle.wf_classes.specs.Members.{HaveKeysOfTheirOwn, method_key, field_key, method_keys, field_keys, member_count}
use Rattle.wf_classes.proofs.Ranking.{order_inside, heights_are}
use Rattle.wf_classes.proofs.Spelled.{methods_apart, fields_apart}
use Rattle.wf_classes.proofs.Tables.{count_of_keys}
use Rattle.wf_classes.proofs.classes.kept.Goals as goal

pub places_in-requires-clause-inside : goal.places_in-requires-clause-inside
places_in-requires-clause-inside c =
    let list = c.args.list.items in
    let order = c.in_ok-order.field-0.order.items in
    let closes = subst (λ (xs : List ClassInfo). Closes xs c.in_ok-order.field-0.waiting.items order) c.as_slice.ensures.value c.in_ok-order.ensures in
    subst (λ (xs : List ℕ). (h : ℕ) → h < length xs → get_or xs h 0 < length xs) (sym c.as_slice-2.ensures.value) (order_inside list c.in_ok-order.field-0.waiting.items order c.requires closes)

pub methods_of-requires-clause-apart : goal.methods_of-requires-clause-apart
methods_of-requires-clause-apart c = subst (λ (xs : List ClassInfo). HaveKeysOfTheirOwn (method_keys xs)) (sym c.as_slice-4.ensures.value) (methods_apart c.args.list.items c.requires.spelled)

pub fields_of-requires-clause-apart : goal.fields_of-requires-clause-apart
fields_of-requires-clause-apart c = subst (λ (xs : List ClassInfo). HaveKeysOfTheirOwn (field_keys xs)) (sym c.as_slice-5.ensures.value) (fields_apart c.args.list.items c.requires.spelled)

pub methods_of-requires-clause-members : goal.methods_of-requires-clause-members
methods_of-requires-clause-members c = subst (λ (xs : List ClassInfo). member_count (method_keys xs) ≤ 536870912) (sym c.as_slice-4.ensures.value)
    (omega (arith, count_of_keys method_key (λ (k : ClassInfo). k.methods) c.args.list.items, c.requires.limits.methods))

pub fields_of-requires-clause-members : goal.fields_of-requires-clause-members
fields_of-requires-clause-members c = subst (λ (xs : List ClassInfo). member_count (field_keys xs) ≤ 536870912) (sym c.as_slice-5.ensures.value)
    (omega (arith, count_of_keys field_key (λ (k : ClassInfo). k.fields) c.args.list.items, c.requires.limits.fields))

pub invariant_of-result : goal.invariant_of-result
invariant_of-result c =
    let list = c.args.list.items in
    let order = c.in_ok-order.field-0.order.items in
    let waiting = c.in_ok-order.field-0.waiting.items in
    let heights = c.in_ok-heights.heights.items in
    let closes = subst (λ (xs : List ClassInfo). Closes xs waiting order) c.as_slice.ensures.value c.in_ok-order.ensures in
    let size : length heights ≡ length order = omega (arith, c.in_ok-heights.ensures.count, ap length c.as_slice-2.ensures.value, c.in_ok-heights.heights.ok.0) in
    let each : (p : ℕ) → p < length order → get_or heights (get_or order p 0) 0 ≡ p =
    subst (λ (xs : List ℕ). (p : ℕ) → p < length xs → get_or heights (get_or xs p 0) 0 ≡ p) c.as_slice-2.ensures.value c.in_ok-heights.ensures.each in
    rw c.from_vec.ensures (record {
      world = c.requires;
      linked = subst (λ (xs : List ClassInfo). AreLinks xs (length xs) c.in_ok-links.links.items) c.as_slice-3.ensures.value c.in_ok-links.ensures;
      ranked = heights_are list waiting order heights c.requires closes size each;
      with_methods = subst (λ (xs : List ClassInfo). AreMembers (method_keys xs) (length xs) c.in_ok-methods.methods.first.items c.in_ok-methods.methods.places.items) c.as_slice-4.ensures.value c.in_ok-methods.ensures;
      with_fields = subst (λ (xs : List ClassInfo). AreMembers (field_keys xs) (length xs) c.in_ok-fields.fields.first.items c.in_ok-fields.fields.places.items) c.as_slice-5.ensures.value c.in_ok-fields.ensures;
    })

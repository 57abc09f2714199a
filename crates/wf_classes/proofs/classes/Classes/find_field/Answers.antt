use Rattle.std.proofs.Common.{◌≡◌, ◌∙◌, ◌+◌, ◌<◌, List, [], Some, None, ap, sym, subst, map, length, take, drop, get_or, refl, arith}
use Rattle.std.proofs.lemmas.List.{length-map, get_or_read, length-take, length-drop}
use Rattle.std.proofs.lemmas.Option.{slice_get_read}
use Rattle.wf_data.specs.declared.class_info.ClassInfo.{ClassInfo}
use Rattle.wf_grammar.specs.ClassFile.{Key}
use Rattle.wf_classes.specs.Members.{field_key, field_keys, field_number}
use Rattle.wf_classes.proofs.Tables.{in_class, keys_at, find_is, count_of_keys}
use Rattle.wf_classes.proofs.classes.Classes.find_field.Goals as goal

pub overflow_add-result : goal.overflow_add-result
overflow_add-result c =
    let list = c.self.inside.list in
    let d = c.args.class.0 in
    let first = c.self.inside.fields.first.items in
    let places = c.self.inside.fields.places.items in
    let k = c.index-as_slice-class.result in
    let members = c.as_slice-fields.result.now in
    let size = length-map list (λ (k : ClassInfo). map field_key k.fields) in
    let there : d < length list = omega (arith, c.requires, ap length c.self.view_is) in
    let read = slice_get_read list (length list) d k refl there (c.index-as_slice-class.is ∙ ap (λ (xs : List ClassInfo). get_or xs d k) c.as_slice.ensures) in
    let inside = in_class (field_keys list) (length list) d first places size there c.self.invariant.with_fields in
    let own : get_or (field_keys list) d [] ≡ map field_key members = keys_at field_key (λ (k : ClassInfo). k.fields) list d k read ∙ ap (map field_key) (ap (λ (y : ClassInfo). y.fields) c.index-as_slice-class.is ∙ sym c.as_slice-fields.ensures) in
    let key : Key = (c.args.name.now, c.args.desc.now) in
    let start : c.index.result.now ≡ get_or first d 0 = get_or_read first d c.index.result.now (omega (arith, inside.firsts, size, there)) c.index.ensures 0 in
    let total = count_of_keys field_key (λ (k : ClassInfo). k.fields) list in
    let slice : length c.class_places-places.result.now ≡ length (take (length members) (drop (get_or first d 0) places)) = ap length c.class_places-places.ensures in
    omega (arith, start, total, inside.room, inside.count, c.in-Some.ensures.within, slice, length-take (length members) (drop (get_or first d 0) places), length-drop (get_or first d 0) places, ap length own, length-map members field_key, c.self.invariant.world.limits.fields)

pub returns-in-Some-clause-number : goal.returns-in-Some-clause-number
returns-in-Some-clause-number c =
    let list = c.self.inside.list in
    let d = c.args.class.0 in
    let first = c.self.inside.fields.first.items in
    let places = c.self.inside.fields.places.items in
    let k = c.index-as_slice-class.result in
    let members = c.as_slice-fields.result.now in
    let size = length-map list (λ (k : ClassInfo). map field_key k.fields) in
    let there : d < length list = omega (arith, c.requires, ap length c.self.view_is) in
    let read = slice_get_read list (length list) d k refl there (c.index-as_slice-class.is ∙ ap (λ (xs : List ClassInfo). get_or xs d k) c.as_slice.ensures) in
    let inside = in_class (field_keys list) (length list) d first places size there c.self.invariant.with_fields in
    let own : get_or (field_keys list) d [] ≡ map field_key members = keys_at field_key (λ (k : ClassInfo). k.fields) list d k read ∙ ap (map field_key) (ap (λ (y : ClassInfo). y.fields) c.index-as_slice-class.is ∙ sym c.as_slice-fields.ensures) in
    let key : Key = (c.args.name.now, c.args.desc.now) in
    let found = find_is (field_keys list) d first places (map field_key members) c.class_places-places.result.now (length members) key (Some c.in-Some.rank) inside own (sym (length-map members field_key)) c.class_places-places.ensures c.in-Some.ensures.rank in
    let start : c.index.result.now ≡ get_or first d 0 = get_or_read first d c.index.result.now (omega (arith, inside.firsts, size, there)) c.index.ensures 0 in
    subst (λ (xs : List ClassInfo). Some (c.index.result.now + c.in-Some.rank) ≡ field_number xs d c.args.name.now c.args.desc.now) c.self.view_is (ap (λ n. Some (n + c.in-Some.rank)) start ∙ found)

pub returns-in-None-clause-number : goal.returns-in-None-clause-number
returns-in-None-clause-number c =
    let list = c.self.inside.list in
    let d = c.args.class.0 in
    let first = c.self.inside.fields.first.items in
    let places = c.self.inside.fields.places.items in
    let k = c.index-as_slice-class.result in
    let members = c.as_slice-fields.result.now in
    let size = length-map list (λ (k : ClassInfo). map field_key k.fields) in
    let there : d < length list = omega (arith, c.requires, ap length c.self.view_is) in
    let read = slice_get_read list (length list) d k refl there (c.index-as_slice-class.is ∙ ap (λ (xs : List ClassInfo). get_or xs d k) c.as_slice.ensures) in
    let inside = in_class (field_keys list) (length list) d first places size there c.self.invariant.with_fields in
    let own : get_or (field_keys list) d [] ≡ map field_key members = keys_at field_key (λ (k : ClassInfo). k.fields) list d k read ∙ ap (map field_key) (ap (λ (y : ClassInfo). y.fields) c.index-as_slice-class.is ∙ sym c.as_slice-fields.ensures) in
    let key : Key = (c.args.name.now, c.args.desc.now) in
    let found = find_is (field_keys list) d first places (map field_key members) c.class_places-places.result.now (length members) key None inside own (sym (length-map members field_key)) c.class_places-places.ensures c.in-None.ensures.rank in
    subst (λ (xs : List ClassInfo). None ≡ field_number xs d c.args.name.now c.args.desc.now) c.self.view_is found

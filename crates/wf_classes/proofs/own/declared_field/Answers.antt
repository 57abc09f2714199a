use Rattle.std.proofs.Common.{◌≡◌, ◌∙◌, List, [], Some, ap, sym, length, get_or, refl}
use Rattle.std.specs.Prelude.{slice_get}
use Rattle.std.specs.Option.{option_map_or}
use Rattle.std.proofs.lemmas.Option.{slice_get_read, get_or_from_slice_get}
use Rattle.wf_data.specs.declared.class_info.ClassInfo.{ClassInfo}
use Rattle.wf_data.specs.declared.class_info.FieldInfo.{FieldInfo}
use Rattle.wf_classes.specs.Members.{field_key, field_number}
use Rattle.wf_classes.specs.World.{number}
use Rattle.wf_classes.specs.Own.{fields_at}
use Rattle.wf_classes.proofs.Declarations.{is_there, found}
use Rattle.wf_classes.proofs.own.declared_field.Goals as goal

pub returns-clause-is : goal.returns-clause-is
returns-clause-is c =
    let classes = c.args.classes.now in
    let class = number c.field_place-place.result.class in
    let place = c.field_place-place.result.index in
    let m = is_there field_key (λ (k : ClassInfo). k.fields) classes c.args.f.0 class place c.field_place-place.ensures.place in
    let there = slice_get_read classes (length classes) class c.index-as_slice-place.result refl c.field_place-place.ensures.class (c.index-as_slice-place.is ∙ ap (λ (xs : List ClassInfo). get_or xs class c.index-as_slice-place.result) (c.as_slice.ensures ∙ c.list.ensures.same)) in
    let read : fields_at classes class ≡ c.as_slice-2.result.now = ap (λ o. option_map_or (λ (k : ClassInfo). k.fields) o []) there ∙ sym c.as_slice-2.ensures in
    let same : c.index-as_slice-place-2.result ≡ m.member = c.index-as_slice-place-2.is ∙ get_or_from_slice_get c.as_slice-2.result.now place m.member c.index-as_slice-place-2.result (sym (ap (λ (xs : List FieldInfo). slice_get xs place) read) ∙ m.there) in
    let x = c.index-as_slice-place-2.result in
    let numbered : field_number classes class x.name x.desc ≡ Some c.args.f.0 = ap (λ (x : FieldInfo). field_number classes class x.name x.desc) same ∙ m.number in
    record {
      there = found field_key (λ (k : ClassInfo). k.fields) classes c.args.f.0 class class place (field_key x) x c.list.ensures.fields_apart numbered (m.there ∙ ap (λ x. Some x) (sym same)) numbered;
      number = numbered;
    }

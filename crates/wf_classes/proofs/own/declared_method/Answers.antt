use Rattle.std.proofs.Common.{◌≡◌, ◌∙◌, List, [], Some, ap, sym, length, get_or, refl}
use Rattle.std.specs.Prelude.{slice_get}
use Rattle.std.specs.Option.{option_map_or}
use Rattle.std.proofs.lemmas.Option.{slice_get_read, get_or_from_slice_get}
use Rattle.wf_data.specs.declared.class_info.ClassInfo.{ClassInfo}
use Rattle.wf_data.specs.declared.class_info.MethodInfo.{MethodInfo}
use Rattle.wf_classes.specs.Members.{method_key, method_number}
use Rattle.wf_classes.specs.World.{number}
use Rattle.wf_classes.specs.Own.{methods_at}
use Rattle.wf_classes.proofs.Declarations.{is_there, found}
use Rattle.wf_classes.proofs.own.declared_method.Goals as goal

pub returns-clause-is : goal.returns-clause-is
returns-clause-is c =
    let classes = c.args.classes.now in
    let class = number c.method_place-place.result.class in
    let place = c.method_place-place.result.index in
    let m = is_there method_key (λ (k : ClassInfo). k.methods) classes c.args.m.0 class place c.method_place-place.ensures.place in
    let there = slice_get_read classes (length classes) class c.index-as_slice-place.result refl c.method_place-place.ensures.class (c.index-as_slice-place.is ∙ ap (λ (xs : List ClassInfo). get_or xs class c.index-as_slice-place.result) (c.as_slice.ensures ∙ c.list.ensures.same)) in
    let read : methods_at classes class ≡ c.as_slice-2.result.now = ap (λ o. option_map_or (λ (k : ClassInfo). k.methods) o []) there ∙ sym c.as_slice-2.ensures in
    let same : c.index-as_slice-place-2.result ≡ m.member = c.index-as_slice-place-2.is ∙ get_or_from_slice_get c.as_slice-2.result.now place m.member c.index-as_slice-place-2.result (sym (ap (λ (xs : List MethodInfo). slice_get xs place) read) ∙ m.there) in
    let x = c.index-as_slice-place-2.result in
    let numbered : method_number classes class x.name x.desc ≡ Some c.args.m.0 = ap (λ (x : MethodInfo). method_number classes class x.name x.desc) same ∙ m.number in
    record {
      there = found method_key (λ (k : ClassInfo). k.methods) classes c.args.m.0 class class place (method_key x) x c.list.ensures.methods_apart numbered (m.there ∙ ap (λ x. Some x) (sym same)) numbered;
      number = numbered;
    }

use Rattle.std.proofs.Common.{◌≡◌, ◌∙◌, List, ap, subst, map, length, refl, arith}
use Rattle.std.proofs.lemmas.List.{length-map, take_all}
use Rattle.std.proofs.lemmas.Option.{slice_get_read}
use Rattle.wf_data.specs.declared.class_info.ClassInfo.{ClassInfo}
use Rattle.wf_grammar.specs.ClassFile.{Key}
use Rattle.wf_classes.specs.World.{number}
use Rattle.wf_classes.specs.Members.{field_key, field_keys, IsMemberAt, member_count}
use Rattle.wf_classes.proofs.Tables.{IsPlaced, place_is}
use Rattle.wf_classes.proofs.classes.Classes.field_place.Goals as goal

placed : (c : goal.After-result-1) → IsPlaced (field_keys c.self.inside.list) c.args.f.0 c.index.result.now
placed c =
    let list = c.self.inside.list in
    let places = c.self.inside.fields.places.items in
    let size = length-map list (λ (k : ClassInfo). map field_key k.fields) in
    let total : length places ≡ member_count (field_keys list) = c.self.invariant.with_fields.count ∙ ap (λ (xs : List (List Key)). member_count xs) (take_all (length list) (field_keys list) (omega (arith, size))) in
    place_is (field_keys list) (length list) c.args.f.0 c.self.inside.fields.first.items places c.index.result.now size c.self.invariant.with_fields
    (slice_get_read places (length places) c.args.f.0 c.index.result.now refl (omega (arith, total, c.requires, ap (λ (xs : List ClassInfo). member_count (field_keys xs)) c.self.view_is)) c.index.ensures)

pub returns-clause-class : goal.returns-clause-class
returns-clause-class c =
    let list = c.self.inside.list in
    omega (arith, (placed c).class, length-map list (λ (k : ClassInfo). map field_key k.fields), ap length c.self.view_is)

pub returns-clause-place : goal.returns-clause-place
returns-clause-place c = subst (λ (xs : List ClassInfo). IsMemberAt (field_keys xs) c.args.f.0 (number c.index.result.now.class) c.index.result.now.index) c.self.view_is (placed c).member

use Rattle.std.proofs.Common.{◌≡◌, ◌∙◌, List, ap, subst, map, length, refl, arith}
use Rattle.std.proofs.lemmas.List.{length-map, take_all}
use Rattle.std.proofs.lemmas.Option.{slice_get_read}
use Rattle.wf_data.specs.declared.class_info.ClassInfo.{ClassInfo}
use Rattle.wf_grammar.specs.ClassFile.{Key}
use Rattle.wf_classes.specs.World.{number}
use Rattle.wf_classes.specs.Members.{method_key, method_keys, IsMemberAt, member_count}
use Rattle.wf_classes.proofs.Tables.{IsPlaced, place_is}
use Rattle.wf_classes.proofs.classes.Classes.method_place.Goals as goal

placed : (c : goal.After-result-1) → IsPlaced (method_keys c.self.inside.list) c.args.m.0 c.index.result.now
placed c =
    let list = c.self.inside.list in
    let places = c.self.inside.methods.places.items in
    let size = length-map list (λ (k : ClassInfo). map method_key k.methods) in
    let total : length places ≡ member_count (method_keys list) = c.self.invariant.with_methods.count ∙ ap (λ (xs : List (List Key)). member_count xs) (take_all (length list) (method_keys list) (omega (arith, size))) in
    place_is (method_keys list) (length list) c.args.m.0 c.self.inside.methods.first.items places c.index.result.now size c.self.invariant.with_methods
    (slice_get_read places (length places) c.args.m.0 c.index.result.now refl (omega (arith, total, c.requires, ap (λ (xs : List ClassInfo). member_count (method_keys xs)) c.self.view_is)) c.index.ensures)

pub returns-clause-class : goal.returns-clause-class
returns-clause-class c =
    let list = c.self.inside.list in
    omega (arith, (placed c).class, length-map list (λ (k : ClassInfo). map method_key k.methods), ap length c.self.view_is)

pub returns-clause-place : goal.returns-clause-place
returns-clause-place c = subst (λ (xs : List ClassInfo). IsMemberAt (method_keys xs) c.args.m.0 (number c.index.result.now.class) c.index.result.now.index) c.self.view_is (placed c).member

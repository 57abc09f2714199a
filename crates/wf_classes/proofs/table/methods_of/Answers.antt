use Rattle.std.proofs.Common.{◌∙◌, List, [], ap, sym, subst, refl, map, length, get_or, arith}
use Rattle.std.proofs.lemmas.List.{length-map}
use Rattle.std.proofs.lemmas.Option.{slice_get_read}
use Rattle.wf_data.specs.declared.class_info.ClassInfo.{ClassInfo}
use Rattle.wf_grammar.specs.ClassFile.{Key}
use Rattle.wf_classes.specs.Members.{method_key, method_keys}
use Rattle.wf_classes.specs.KeyedLists.{IsKeyedList}
use Rattle.wf_classes.specs.declared.members.Keyed.{Keyed}
use Rattle.wf_classes.proofs.Tables.{keys_at, keys_fit}
use Rattle.wf_classes.proofs.table.methods_of.Goals as goal

pub keyed_methods-requires : goal.keyed_methods-requires
keyed_methods-requires c =
    let list = c.args.list.now in
    let k = c.index-list-c.result in
    let read = slice_get_read list (length list) c.loop-c.c k refl c.loop-c-test.true c.index-list-c.is in
    let own = keys_at method_key (λ (k : ClassInfo). k.methods) list c.loop-c.c k read in
    let size = length-map list (λ (k : ClassInfo). map method_key k.methods) in
    let fits = keys_fit (method_keys list) c.loop-c.c (omega (arith, size)) in
    omega (arith, fits, ap length own, length-map k.methods method_key, ap length c.as_slice.ensures, c.requires.members)

pub loop-c-preserved : goal.loop-c-preserved
loop-c-preserved c =
    let list = c.args.list.now in
    let k = c.index-list-c.result in
    let read = slice_get_read list (length list) c.loop-c.c k refl c.loop-c-test.true c.index-list-c.is in
    let own = keys_at method_key (λ (k : ClassInfo). k.methods) list c.loop-c.c k read in
    let size = length-map list (λ (k : ClassInfo). map method_key k.methods) in
    let keyed : IsKeyedList (get_or (method_keys list) c.loop-c.c []) c.as_slice-in-loop-c.result.now =
    subst (λ (ks : List Keyed). IsKeyedList (get_or (method_keys list) c.loop-c.c []) ks) (sym c.as_slice-in-loop-c.ensures.value)
    (subst (λ (ks : List Key). IsKeyedList ks c.in_ok-keyed.keyed.items) (ap (map method_key) c.as_slice.ensures ∙ sym own) c.in_ok-keyed.ensures) in
    c.in_ok-push_class.ensures (method_keys list) c.requires.apart (omega (arith, size)) c.loop-c.invariant keyed

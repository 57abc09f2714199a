use Rattle.std.proofs.Common.{sym, rules}
use Rattle.std.specs.Cmp.Lexicographic.{slice_cmp}
use Rattle.std.specs.Ordering.{nat_cmp}
use Rattle.std.specs.Str.{bytes_eq}
use Rattle.std.proofs.lemmas.Cmp.{nat_list_cmp_total}
use Rattle.std.proofs.lemmas.Fn.{always_returns_same}
use Rattle.std.proofs.lemmas.Map.Text.{is_eq-slice_cmp}
use Rattle.wf_data.specs.declared.class_info.ClassInfo.{ClassInfo}
use Rattle.wf_classes.proofs.Search.{found_place, no_place}
use Rattle.wf_classes.proofs.names.class_number.Goals as goal

pub returns-in-Ok : goal.returns-in-Ok
returns-in-Ok c =
    let name = c.args.name.now in
    sym (found_place nat_list_cmp_total (λ (k : ClassInfo). k.name) c.args.list.now name c.in-Ok.c (λ (k : ClassInfo). bytes_eq k.name name) (λ k. sym (is_eq-slice_cmp k.name name)) c.requires.ascending c.in-Ok.ensures.bound
    (c.in-Ok.ensures.position (λ k. slice_cmp nat_cmp k.name name) (always_returns_same _ _ _ (λ a r g h. search rules))))

pub returns-in-Err : goal.returns-in-Err
returns-in-Err c =
    let name = c.args.name.now in
    sym (no_place nat_list_cmp_total (λ (k : ClassInfo). k.name) c.args.list.now name c.in-Err.field-0 (λ (k : ClassInfo). bytes_eq k.name name) (λ k. sym (is_eq-slice_cmp k.name name))
    (c.in-Err.ensures.position (λ k. slice_cmp nat_cmp k.name name) (always_returns_same _ _ _ (λ a r g h. search rules))) c.requires.ascending)

use Rattle.std.proofs.Common.{◌≡◌, ◌∙◌, ℕ, true, false, not, List, Option, Some, None, ap, sym, subst, length, refl, arith, IsPermutation}
use Rattle.std.specs.Option.{is_some}
use Rattle.std.proofs.lemmas.List.Sorted.{length_permutation}
use Rattle.wf_data.specs.declared.class_info.ClassInfo.{ClassInfo}
use Rattle.wf_names.specs.Names.{object_name}
use Rattle.wf_classes.specs.World.{HaveNamesOfTheirOwn, IsAscending, IsClosingOf, IsClosedWorld, names_of, class_of}
use Rattle.wf_classes.specs.Closing.{Closes, kept_of}
use Rattle.wf_classes.proofs.KeptFacts.{Closing, closed_world, no_object, kept_ascends, kept_count}
use Rattle.wf_classes.proofs.classes.close_world.Goals as goal

none_is : (o : Option ℕ) → is_some o ≡ false → o ≡ None
none_is None e = refl
none_is (Some x) e = absurd cc

some_is : (o : Option ℕ) → is_some o ≡ true → (x : ℕ) × (o ≡ Some x)
some_is None e = absurd cc
some_is (Some x) e = (x, refl)

pub close-requires-clause-few : goal.close-requires-clause-few
close-requires-clause-few c =
    omega (arith, ap length c.as_slice.ensures.value, length_permutation c.into_vec-list.result.items c.sort_by_name.new.files.items c.sort_by_name.ensures.permutation, ap length c.into_vec-list.ensures, c.requires.limits.count)

pub class_number-requires-clause-ascending : goal.class_number-requires-clause-ascending
class_number-requires-clause-ascending c =
    let given = c.args.files in
    let sorted = c.sort_by_name.new.files.items in
    let released = c.in_ok-waiting.field-0 in
    let waiting = released.waiting.items in
    let moved = subst (λ (xs : List ClassInfo). IsPermutation xs sorted) c.into_vec-list.ensures c.sort_by_name.ensures.permutation in
    let up = c.sort_by_name.ensures.ascending (subst HaveNamesOfTheirOwn (sym c.into_vec-list.ensures) c.requires.apart) in
    let closing : Closing given sorted waiting released.order.items = record {
      moved = moved;
      ascending = up;
      closes = subst (λ (xs : List ClassInfo). Closes xs waiting released.order.items) c.as_slice.ensures.value c.in_ok-waiting.ensures;
    } in
    let left : c.keep_loadable.new.files.items ≡ kept_of waiting sorted = c.keep_loadable.ensures ∙ ap (λ (ws : List ℕ). kept_of ws sorted) c.as_slice-2.ensures.value in
    subst (λ (xs : List ClassInfo). IsAscending (names_of xs)) (sym (c.as_slice-3.ensures.value ∙ left)) (kept_ascends waiting sorted up)

pub class_number-requires-clause-few : goal.class_number-requires-clause-few
class_number-requires-clause-few c =
    let given = c.args.files in
    let sorted = c.sort_by_name.new.files.items in
    let released = c.in_ok-waiting.field-0 in
    let waiting = released.waiting.items in
    let moved = subst (λ (xs : List ClassInfo). IsPermutation xs sorted) c.into_vec-list.ensures c.sort_by_name.ensures.permutation in
    let up = c.sort_by_name.ensures.ascending (subst HaveNamesOfTheirOwn (sym c.into_vec-list.ensures) c.requires.apart) in
    let closing : Closing given sorted waiting released.order.items = record {
      moved = moved;
      ascending = up;
      closes = subst (λ (xs : List ClassInfo). Closes xs waiting released.order.items) c.as_slice.ensures.value c.in_ok-waiting.ensures;
    } in
    let left : c.keep_loadable.new.files.items ≡ kept_of waiting sorted = c.keep_loadable.ensures ∙ ap (λ (ws : List ℕ). kept_of ws sorted) c.as_slice-2.ensures.value in
    omega (arith, ap length (c.as_slice-3.ensures.value ∙ left), kept_count waiting sorted, length_permutation given sorted moved, c.requires.limits.count)

pub returns-then-is_none-clause-no_object : goal.returns-then-is_none-clause-no_object
returns-then-is_none-clause-no_object c e =
    let given = c.args.files in
    let sorted = c.sort_by_name.new.files.items in
    let released = c.in_ok-waiting.field-0 in
    let waiting = released.waiting.items in
    let moved = subst (λ (xs : List ClassInfo). IsPermutation xs sorted) c.into_vec-list.ensures c.sort_by_name.ensures.permutation in
    let up = c.sort_by_name.ensures.ascending (subst HaveNamesOfTheirOwn (sym c.into_vec-list.ensures) c.requires.apart) in
    let closing : Closing given sorted waiting released.order.items = record {
      moved = moved;
      ascending = up;
      closes = subst (λ (xs : List ClassInfo). Closes xs waiting released.order.items) c.as_slice.ensures.value c.in_ok-waiting.ensures;
    } in
    let left : c.keep_loadable.new.files.items ≡ kept_of waiting sorted = c.keep_loadable.ensures ∙ ap (λ (ws : List ℕ). kept_of ws sorted) c.as_slice-2.ensures.value in
    let looked : c.class_number.result ≡ class_of (kept_of waiting sorted) object_name =
    c.class_number.ensures ∙ ap (λ (xs : List ClassInfo). class_of xs c.as_slice-4.result.now) (c.as_slice-3.ensures.value ∙ left) ∙ ap (class_of (kept_of waiting sorted)) c.as_slice-4.ensures in
    no_object given sorted waiting released.order.items closing (sym looked ∙ none_is c.class_number.result (c.is_none.ensures ∙ ap not c.if-is_none.true))

pub kept-requires : goal.kept-requires
kept-requires c =
    let given = c.args.files in
    let sorted = c.sort_by_name.new.files.items in
    let released = c.in_ok-waiting.field-0 in
    let waiting = released.waiting.items in
    let moved = subst (λ (xs : List ClassInfo). IsPermutation xs sorted) c.into_vec-list.ensures c.sort_by_name.ensures.permutation in
    let up = c.sort_by_name.ensures.ascending (subst HaveNamesOfTheirOwn (sym c.into_vec-list.ensures) c.requires.apart) in
    let closing : Closing given sorted waiting released.order.items = record {
      moved = moved;
      ascending = up;
      closes = subst (λ (xs : List ClassInfo). Closes xs waiting released.order.items) c.as_slice.ensures.value c.in_ok-waiting.ensures;
    } in
    let left : c.keep_loadable.new.files.items ≡ kept_of waiting sorted = c.keep_loadable.ensures ∙ ap (λ (ws : List ℕ). kept_of ws sorted) c.as_slice-2.ensures.value in
    let looked : c.class_number.result ≡ class_of (kept_of waiting sorted) object_name =
    c.class_number.ensures ∙ ap (λ (xs : List ClassInfo). class_of xs c.as_slice-4.result.now) (c.as_slice-3.ensures.value ∙ left) ∙ ap (class_of (kept_of waiting sorted)) c.as_slice-4.ensures in
    let found = some_is c.class_number.result (c.is_none.ensures ∙ ap not c.if-is_none.false) in
    subst IsClosedWorld (sym left) (closed_world given sorted waiting released.order.items found.0 closing c.requires.spelled c.requires.limits (sym looked ∙ found.1)).world

pub returns-clause-closed : goal.returns-clause-closed
returns-clause-closed c =
    let given = c.args.files in
    let sorted = c.sort_by_name.new.files.items in
    let released = c.in_ok-waiting.field-0 in
    let waiting = released.waiting.items in
    let moved = subst (λ (xs : List ClassInfo). IsPermutation xs sorted) c.into_vec-list.ensures c.sort_by_name.ensures.permutation in
    let up = c.sort_by_name.ensures.ascending (subst HaveNamesOfTheirOwn (sym c.into_vec-list.ensures) c.requires.apart) in
    let closing : Closing given sorted waiting released.order.items = record {
      moved = moved;
      ascending = up;
      closes = subst (λ (xs : List ClassInfo). Closes xs waiting released.order.items) c.as_slice.ensures.value c.in_ok-waiting.ensures;
    } in
    let left : c.keep_loadable.new.files.items ≡ kept_of waiting sorted = c.keep_loadable.ensures ∙ ap (λ (ws : List ℕ). kept_of ws sorted) c.as_slice-2.ensures.value in
    let looked : c.class_number.result ≡ class_of (kept_of waiting sorted) object_name =
    c.class_number.ensures ∙ ap (λ (xs : List ClassInfo). class_of xs c.as_slice-4.result.now) (c.as_slice-3.ensures.value ∙ left) ∙ ap (class_of (kept_of waiting sorted)) c.as_slice-4.ensures in
    let found = some_is c.class_number.result (c.is_none.ensures ∙ ap not c.if-is_none.false) in
    subst (IsClosingOf given) (sym (c.in_ok-kept.ensures ∙ left)) (closed_world given sorted waiting released.order.items found.0 closing c.requires.spelled c.requires.limits (sym looked ∙ found.1))

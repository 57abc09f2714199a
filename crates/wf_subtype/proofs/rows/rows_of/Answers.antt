use Rattle.std.proofs.Common.{◌≡◌, ◌∙◌, ◌+◌, ◌*◌, ◌≤◌, ◌<◌, List, ℕ, length, sym, ap, subst, arith}
use Rattle.std.proofs.Math.Nat.{mul-le-mul_right}
use Rattle.std.proofs.lemmas.Nat.{mul-le}
use Rattle.wf_data.specs.declared.class_info.ClassInfo.{ClassInfo}
use Rattle.wf_subtype.specs.References.{target_count}
use Rattle.wf_subtype.specs.Rows.{AreFresh, row_words}
use Rattle.wf_subtype.proofs.RowBits.{masks_are}
use Rattle.wf_subtype.proofs.TypeFacts.{deepest_small, reference_there}
use Rattle.wf_subtype.proofs.rows.rows_of.Goals as goal

pub overflow_add-targets : goal.overflow_add-targets
overflow_add-targets c = omega (arith, deepest_small c.args.classes.now c.args.names.now c.args.references.now c.args.deepest c.requires.named c.requires.depth)

pub overflow_mul-targets : goal.overflow_mul-targets
overflow_mul-targets c =
    let size : length c.as_slice.result.now ≡ length c.args.classes.now = ap length (c.as_slice.ensures ∙ c.list.ensures.same) in
    let deep : c.args.deepest + 1 ≤ 256 = omega (arith, deepest_small c.args.classes.now c.args.names.now c.args.references.now c.args.deepest c.requires.named c.requires.depth) in
    let few : length c.as_slice.result.now + 8 ≤ 65544 = omega (arith, size, c.list.ensures.world.limits.count) in
    omega (arith, mul-le (c.args.deepest + 1) (length c.as_slice.result.now + 8) 256 65544 deep few)

pub overflow_add-targets-3 : goal.overflow_add-targets-3
overflow_add-targets-3 c =
    let size : length c.as_slice.result.now ≡ length c.args.classes.now = ap length (c.as_slice.ensures ∙ c.list.ensures.same) in
    let deep : c.args.deepest + 1 ≤ 256 = omega (arith, deepest_small c.args.classes.now c.args.names.now c.args.references.now c.args.deepest c.requires.named c.requires.depth) in
    let few : length c.as_slice.result.now + 8 ≤ 65544 = omega (arith, size, c.list.ensures.world.limits.count) in
    omega (arith, mul-le (c.args.deepest + 1) (length c.as_slice.result.now + 8) 256 65544 deep few)

pub put_types-requires-clause-few : goal.put_types-requires-clause-few
put_types-requires-clause-few c = omega (arith, c.requires.few, c.requires.named.count)

pub put_types-requires-clause-there : goal.put_types-requires-clause-there
put_types-requires-clause-there c i r at = reference_there c.args.classes.now c.args.names.now c.args.references.now i r c.requires.named at

pub put_types-requires-clause-inside : goal.put_types-requires-clause-inside
put_types-requires-clause-inside c i r at =
    let size : length c.as_slice.result.now ≡ length c.args.classes.now = ap length (c.as_slice.ensures ∙ c.list.ensures.same) in
    let count : length c.in_ok-rows.rows.places.items ≡ (c.args.deepest + 1) * (length c.args.classes.now + 8) + 1 = c.in_ok-rows.ensures.count ∙ ap (λ n. (c.args.deepest + 1) * (n + 8) + 1) size in
    let low : r.dims + 1 ≤ c.args.deepest + 1 = omega (arith, c.requires.depth.within i r at) in
    omega (arith, count, mul-le-mul_right (length c.args.classes.now + 8) low)

pub put_types-requires-clause-room : goal.put_types-requires-clause-room
put_types-requires-clause-room c = c.in_ok-rows.ensures.width ∙ ap row_words (sym c.requires.named.count)

pub returns : goal.returns
returns c =
    let classes = c.args.classes.now in
    let names = c.args.names.now in
    let size : length c.as_slice.result.now ≡ length classes = ap length (c.as_slice.ensures ∙ c.list.ensures.same) in
    masks_are (record { classes = classes; names = names; references = c.args.references.now; deepest = c.args.deepest }) c.in_ok-rows.rows c.put_types.new.rows c.requires.named c.requires.depth
    (subst (λ n. AreFresh (row_words (length names)) (target_count n c.args.deepest) c.in_ok-rows.rows) size c.in_ok-rows.ensures) c.in_ok-put_types.ensures

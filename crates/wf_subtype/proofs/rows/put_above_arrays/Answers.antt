use Rattle.std.proofs.Common.{◌≡◌, ◌∙◌, ◌+◌, ◌*◌, List, length, subst}
use Rattle.wf_data.specs.declared.class_info.ClassInfo.{ClassInfo}
use Rattle.wf_subtype.specs.Subtypes.{IsAboveArrays}
use Rattle.wf_subtype.specs.Rows.{Puts, IsClassBit}
use Rattle.wf_subtype.proofs.RowBits.{arrays_more}
use Rattle.wf_subtype.proofs.rows.put_above_arrays.Goals as goal

pub loop-n-preserved : goal.loop-n-preserved
loop-n-preserved c =
    let classes = c.args.classes.now in
    let n = c.loop-n.n in
    let b = c.args.b in
    let mid = c.loop-n.rows in
    let new = c.put_array_classes.new.rows in
    arrays_more classes c.args.rows.now mid new n b c.loop-n.invariant
    (subst (λ (ks : List ClassInfo). Puts mid new (IsClassBit (n * (length ks + 8)) b (IsAboveArrays classes))) (c.as_slice.ensures ∙ c.list.ensures.same) c.in_ok-put_array_classes.ensures)

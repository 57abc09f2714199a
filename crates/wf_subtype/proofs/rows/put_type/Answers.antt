use Rattle.std.proofs.Common.{◌≡◌, ◌∙◌, ◌+◌, ◌*◌, List, length, subst}
use Rattle.std.specs.Prelude.{OnOk}
use Rattle.wf_data.specs.declared.class_info.ClassInfo.{ClassInfo}
use Rattle.wf_subtype.specs.Rows.{Puts, IsInnerBit, IsTypeBit}
use Rattle.wf_subtype.proofs.Collecting.{on_ok}
use Rattle.wf_subtype.proofs.RowBits.{type_put}
use Rattle.wf_subtype.proofs.rows.put_type.Goals as goal

pub returns : goal.returns
returns c =
    let classes = c.args.classes.now in
    let r = c.args.r in
    let b = c.args.b in
    let mid = c.put_above_arrays.new.rows in
    let new = c.put_inner.new.rows in
    on_ok c.put_inner.result (Puts mid new (IsInnerBit classes r.inner (r.dims * (length classes + 8)) b)) (Puts c.args.rows.now new (IsTypeBit classes r b)) (type_put classes r b c.args.rows.now mid new c.in_ok-put_above_arrays.ensures)
    (subst (λ (ks : List ClassInfo). OnOk c.put_inner.result (Puts mid new (IsInnerBit classes r.inner (r.dims * (length ks + 8)) b))) (c.as_slice.ensures ∙ c.list.ensures.same) c.put_inner.ensures)

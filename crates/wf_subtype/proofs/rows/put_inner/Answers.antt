use Rattle.std.proofs.Common.{◌≡◌, ◌∙◌, ◌+◌, List, length, sym, subst}
use Rattle.std.specs.Prelude.{OnOk}
use Rattle.wf_data.specs.declared.class_info.ClassInfo.{ClassInfo}
use Rattle.wf_classes.specs.Above.{IsAbove}
use Rattle.wf_subtype.specs.declared.reference.Inner.{Inner}
use Rattle.wf_subtype.specs.declared.reference.Inner.TheVariants.{Class, Primitive}
use Rattle.wf_subtype.specs.Rows.{Puts, IsBit, IsClassBit, IsInnerBit}
use Rattle.wf_subtype.proofs.Collecting.{on_ok}
use Rattle.wf_subtype.proofs.RowBits.{class_inner_put, primitive_put}
use Rattle.wf_subtype.proofs.rows.put_inner.Goals as goal

pub returns-in-Class : goal.returns-in-Class
returns-in-Class c =
    let classes = c.args.classes.now in
    let old = c.args.rows.now in
    let new = c.put_classes_above.new.rows in
    let first = c.args.first in
    let b = c.args.b in
    subst (λ (x : Inner). OnOk c.put_classes_above.result (Puts old new (IsInnerBit classes x first b))) (sym c.in-Class.is)
    (on_ok c.put_classes_above.result (Puts old new (IsClassBit first b (IsAbove classes c.in-Class.c.0))) (Puts old new (IsInnerBit classes (Class c.in-Class.c) first b)) (class_inner_put classes old new c.in-Class.c first b) c.put_classes_above.ensures)

pub returns-in-Primitive : goal.returns-in-Primitive
returns-in-Primitive c =
    let classes = c.args.classes.now in
    let old = c.args.rows.now in
    let new = c.put.new.rows in
    let first = c.args.first in
    let b = c.args.b in
    let p = c.in-Primitive.p in
    subst (λ (x : Inner). OnOk c.put.result (Puts old new (IsInnerBit classes x first b))) (sym c.in-Primitive.is)
    (on_ok c.put.result (Puts old new (IsBit (first + (length classes + p)) b)) (Puts old new (IsInnerBit classes (Primitive p) first b)) (primitive_put classes old new p first b)
    (subst (λ (ks : List ClassInfo). OnOk c.put.result (Puts old new (IsBit (first + (length ks + p)) b))) (c.as_slice.ensures ∙ c.list.ensures.same) c.put.ensures))

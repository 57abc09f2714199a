use Rattle.std.proofs.Common.{◌≡◌, Bool, true, false, List, refl, sym, subst}
use Rattle.std.specs.Prelude.{IsTrue}
use Rattle.wf_data.specs.declared.class_info.ClassInfo.{ClassInfo}
use Rattle.wf_classes.specs.Above.{IsAbove, itself}
use Rattle.wf_resolve.specs.Reaching.{IsSought, IsReaching}
use Rattle.wf_resolve.proofs.FieldSearch.{behind_is}
use Rattle.wf_resolve.proofs.fields.is_reaching.Goals as goal

clash : false ≡ true → ⊥
clash e = cc

pub returns-then-is_sought : goal.returns-then-is_sought
returns-then-is_sought c =
    let above = subst (λ (xs : List ClassInfo). IsAbove xs c.args.above.now.class c.args.d.0) c.requires.same (c.holds.ensures.0 c.if-not-holds.false) in
    (λ t. record { above = above; reaches = record { end = c.args.d.0; above = itself c.args.d.0; is = c.if-is_sought.ensures.0 refl } }, λ q. refl)

pub returns : goal.returns
returns c =
    let P = IsSought c.args.classes.now c.args.sought.now in
    let above = subst (λ (xs : List ClassInfo). IsAbove xs c.args.above.now.class c.args.d.0) c.requires.same (c.holds.ensures.0 c.if-not-holds.false) in
    let is = behind_is c.args.classes.now c.args.heights.now P c.args.above.now.class c.args.d.0 c.args.bits.now c.first_behind.result above (λ s. clash (c.if-is_sought.ensures.1 s)) c.requires.marked c.first_behind.ensures in
    subst (λ (b : Bool). (IsTrue b → IsReaching c.args.classes.now P c.args.above.now.class c.args.d.0) × (IsReaching c.args.classes.now P c.args.above.now.class c.args.d.0 → IsTrue b)) (sym c.is_some.ensures) is

use Rattle.std.proofs.Common.{◌<◌, List, ℕ, length, sym, ap, subst, arith}
use Rattle.wf_subtype.specs.References.{target_count}
use Rattle.wf_subtype.specs.Rows.{IsMask, row_at}
use Rattle.wf_subtype.specs.Subtypes.{AllTypes}
use Rattle.wf_subtype.proofs.RowBits.{mask_has}
use Rattle.wf_subtype.proofs.types.Types.is_subtype.Goals as goal

pub row-requires-clause-inside : goal.row-requires-clause-inside
row-requires-clause-inside c = subst (λ n. c.args.u.0 < n) (sym c.self.invariant.masks.count) (subst (λ (v : AllTypes). c.args.u.0 < target_count (length v.classes) v.deepest) (sym c.self.view_is) c.requires.inside)

pub overflow_add-t : goal.overflow_add-t
overflow_add-t c = omega (arith, c.requires.there, c.self.invariant.few, ap (λ (v : AllTypes). length v.names) c.self.view_is)

pub has-requires : goal.has-requires
has-requires c =
    let u : ℕ = c.args.u.0 in
    let inside = subst (λ (v : AllTypes). u < target_count (length v.classes) v.deepest) (sym c.self.view_is) c.requires.inside in
    omega (arith, c.requires.there, ap length c.row.ensures, (c.self.invariant.masks.masks u inside).size, ap (λ (v : AllTypes). length v.names) c.self.view_is)

pub returns : goal.returns
returns c =
    let u : ℕ = c.args.u.0 in
    let inside = subst (λ (v : AllTypes). u < target_count (length v.classes) v.deepest) (sym c.self.view_is) c.requires.inside in
    let mask = subst (λ (ws : List ℕ). IsMask c.args.self.now u ws) (sym c.row.ensures) (subst (λ (v : AllTypes). IsMask v u (row_at c.self.inside.rows u)) c.self.view_is (c.self.invariant.masks.masks u inside)) in
    let says = mask_has c.args.self.now u c.args.t.0 c.row.result.now mask in
    (λ p. says.0 (c.has.ensures.0 p), λ s. c.has.ensures.1 (says.1 s))

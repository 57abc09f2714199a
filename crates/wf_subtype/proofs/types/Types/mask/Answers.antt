use Rattle.std.proofs.Common.{◌<◌, List, ℕ, length, sym, subst}
use Rattle.wf_subtype.specs.References.{target_count}
use Rattle.wf_subtype.specs.Rows.{IsMask, row_at}
use Rattle.wf_subtype.specs.Subtypes.{AllTypes}
use Rattle.wf_subtype.proofs.types.Types.mask.Goals as goal

pub row-requires-clause-inside : goal.row-requires-clause-inside
row-requires-clause-inside c = subst (λ n. c.args.u.0 < n) (sym c.self.invariant.masks.count) (subst (λ (v : AllTypes). c.args.u.0 < target_count (length v.classes) v.deepest) (sym c.self.view_is) c.requires)

pub returns : goal.returns
returns c =
    let u : ℕ = c.args.u.0 in
    let inside = subst (λ (v : AllTypes). u < target_count (length v.classes) v.deepest) (sym c.self.view_is) c.requires in
    subst (λ (ws : List ℕ). IsMask c.args.self.now u ws) (sym c.row.ensures) (subst (λ (v : AllTypes). IsMask v u (row_at c.self.inside.rows u)) c.self.view_is (c.self.invariant.masks.masks u inside))

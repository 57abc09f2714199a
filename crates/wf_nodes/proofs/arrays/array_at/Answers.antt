use Rattle.std.proofs.Common.{◌≡◌, ◌-◌, ℕ, Some, subst, arith}
use Rattle.std.specs.Prelude.{slice_get}
use Rattle.wf_nodes.proofs.ArrayTypes.{array_found}
use Rattle.wf_nodes.proofs.arrays.array_at.Goals as goal

pub returns-in-Some : goal.returns-in-Some
returns-in-Some c n e =
    let types = c.args.types.now in
    let i : ℕ = c.args.t.0 - 1 in
    let same : i ≡ n = omega (arith, e) in
    let found = array_found types i c.reference.result c.in-Some.component c.reference.ensures.there (c.in-Some.ensures.number c.reference.result c.reference.ensures.there) in
    (found.0, found.1, subst (λ (k : ℕ). slice_get types.references k ≡ Some found.0) same found.2, found.3, found.4, e)

use Rattle.std.proofs.Common.{◌≤◌, length, arith}
use Rattle.wf_bytes.proofs.Sources.{behind, shorter}
use Rattle.wf_bytes.proofs.cursor.Cursor.pass.Goals as goal

pub invariant_of-self : goal.invariant_of-self
invariant_of-self c =
    let le : c.args.n ≤ length c.self.inside.left.now = rw (← c.self.view_is) at c.requires in
    (omega (arith, shorter c.self.inside.left.now c.args.n, c.self.invariant.0, le), behind _ _ _ _ le c.self.invariant.1)

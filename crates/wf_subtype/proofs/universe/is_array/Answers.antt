use Rattle.std.proofs.Common.{arith}
use Rattle.std.proofs.lemmas.Bool.{ltb-false}
use Rattle.wf_subtype.proofs.Naming.{one_depth}
use Rattle.wf_subtype.proofs.universe.is_array.Goals as goal

pub returns-in-Some-clause-none : goal.returns-in-Some-clause-none
returns-in-Some-clause-none c e array =
    absurd (omega (arith, array.dims, ltb-false 0 c.in-Some.r.dims e, one_depth c.args.classes.now c.args.name.now c.in-Some.r array.reference c.requires c.in-Some.ensures array.refers))

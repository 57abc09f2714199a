use Rattle.std.proofs.Common.{subst}
use Rattle.wf_classes.specs.World.{IsClosedWorld}
use Rattle.wf_subtype.specs.Subtypes.{AllTypes, AreReferences, IsDeepest}
use Rattle.wf_subtype.proofs.types.Types.references.Goals as goal

pub returns-clause-world : goal.returns-clause-world
returns-clause-world c = subst (λ (v : AllTypes). IsClosedWorld v.classes) c.self.view_is c.self.invariant.world

pub returns-clause-named : goal.returns-clause-named
returns-clause-named c = subst (λ (v : AllTypes). AreReferences v.classes v.names v.references) c.self.view_is c.self.invariant.named

pub returns-clause-depth : goal.returns-clause-depth
returns-clause-depth c = subst (λ (v : AllTypes). IsDeepest v.references v.deepest) c.self.view_is c.self.invariant.depth

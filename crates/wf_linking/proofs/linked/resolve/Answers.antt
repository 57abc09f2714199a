use Rattle.std.proofs.Common.{Option, Some, None, refl, subst}
use Rattle.wf_linking.specs.Symbolic.{Symbolic}
use Rattle.wf_linking.specs.Linking.{LinksIfAny}
use Rattle.wf_linking.proofs.linked.resolve.Goals as goal

pub returns-in-Some-clause-is : goal.returns-in-Some-clause-is
returns-in-Some-clause-is c = subst (λ (s : Option Symbolic). LinksIfAny c.args.classes.now s (Some c.link.result)) c.in-Some.ensures c.link.ensures.is

pub returns-in-None-clause-is : goal.returns-in-None-clause-is
returns-in-None-clause-is c = subst (λ (s : Option Symbolic). LinksIfAny c.args.classes.now s None) c.in-None.ensures refl

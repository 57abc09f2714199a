use Rattle.wf_body.specs.Each.{AreEach}
use Rattle.wf_body.specs.Methods.{IsHandlerAt}
use Rattle.wf_body.proofs.handlers.handlers_of.Given as goal

abbrev pub invariant-loop-entry : goal.invariant-loop-entry
invariant-loop-entry l = AreEach (IsHandlerAt l.parts l.source l.blocks) l.entry l.handlers.items

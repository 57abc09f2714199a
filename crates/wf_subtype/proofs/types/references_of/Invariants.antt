use Rattle.wf_subtype.specs.Subtypes.{AreFirstReferences}
use Rattle.wf_subtype.proofs.types.references_of.Given as goal

abbrev pub invariant-loop-name : goal.invariant-loop-name
invariant-loop-name l = AreFirstReferences l.classes l.names l.name-index l.references.items

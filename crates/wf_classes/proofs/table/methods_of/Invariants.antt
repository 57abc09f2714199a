use Rattle.wf_classes.specs.Members.{method_keys}
use Rattle.wf_classes.specs.Links.{AreMembers}
use Rattle.wf_classes.proofs.table.methods_of.Given as goal

abbrev pub invariant-loop-c : goal.invariant-loop-c
invariant-loop-c l = AreMembers (method_keys l.list) l.c l.members.first.items l.members.places.items

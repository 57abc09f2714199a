use Rattle.std.proofs.Common.{map}
use Rattle.wf_classes.specs.Members.{method_key}
use Rattle.wf_classes.proofs.KeyLists.{AreKeyed}
use Rattle.wf_classes.proofs.members.keyed_methods.Given as goal

abbrev pub invariant-loop-i : goal.invariant-loop-i
invariant-loop-i l = AreKeyed (map method_key l.methods) l.i l.keyed.items

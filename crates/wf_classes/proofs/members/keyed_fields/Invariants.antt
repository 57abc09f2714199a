use Rattle.std.proofs.Common.{map}
use Rattle.wf_classes.specs.Members.{field_key}
use Rattle.wf_classes.proofs.KeyLists.{AreKeyed}
use Rattle.wf_classes.proofs.members.keyed_fields.Given as goal

abbrev pub invariant-loop-i : goal.invariant-loop-i
invariant-loop-i l = AreKeyed (map field_key l.fields) l.i l.keyed.items

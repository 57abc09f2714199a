use Rattle.std.proofs.Common.{◌≡◌, false, drop}
use Rattle.wf_grammar.specs.Writing.{put_places}
use Rattle.wf_classfile.proofs.writer.constants.put_places.Given as goal

abbrev pub invariant-loop-entry : goal.invariant-loop-entry
invariant-loop-entry l = put_places l.is_second (drop l.entry-index l.entries) l.out.items ≡ put_places false l.entries l.fn.out.items

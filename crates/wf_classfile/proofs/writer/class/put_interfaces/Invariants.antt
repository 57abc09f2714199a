use Rattle.std.proofs.Common.{◌≡◌, drop}
use Rattle.wf_grammar.specs.Writing.{put_interfaces}
use Rattle.wf_classfile.proofs.writer.class.put_interfaces.Given as goal

abbrev pub invariant-loop-name : goal.invariant-loop-name
invariant-loop-name l = put_interfaces l.pool (drop l.name-index l.interfaces) l.out.items ≡ put_interfaces l.pool l.interfaces l.fn.out.items

use Rattle.std.proofs.Common.{◌≡◌, drop}
use Rattle.wf_grammar.specs.Writing.{put_methods}
use Rattle.wf_classfile.proofs.writer.members.put_methods.Given as goal

abbrev pub invariant-loop-method : goal.invariant-loop-method
invariant-loop-method l = put_methods l.pool l.met (drop l.method-index l.methods) l.out.items ≡ put_methods l.pool l.fn.met l.methods l.fn.out.items

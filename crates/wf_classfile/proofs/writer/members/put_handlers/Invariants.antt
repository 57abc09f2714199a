use Rattle.std.proofs.Common.{◌≡◌, drop}
use Rattle.wf_grammar.specs.Writing.{put_handlers}
use Rattle.wf_classfile.proofs.writer.members.put_handlers.Given as goal

abbrev pub invariant-loop-handler : goal.invariant-loop-handler
invariant-loop-handler l = put_handlers (drop l.handler-index l.table) l.out.items ≡ put_handlers l.table l.fn.out.items

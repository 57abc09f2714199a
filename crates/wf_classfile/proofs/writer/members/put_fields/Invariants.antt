use Rattle.std.proofs.Common.{◌≡◌, drop}
use Rattle.wf_grammar.specs.Writing.{put_fields}
use Rattle.wf_classfile.proofs.writer.members.put_fields.Given as goal

abbrev pub invariant-loop-field : goal.invariant-loop-field
invariant-loop-field l = put_fields l.pool l.met (drop l.field-index l.fields) l.out.items ≡ put_fields l.pool l.fn.met l.fields l.fn.out.items

use Rattle.std.proofs.Common.{sym, ◌∙◌}
use Rattle.wf_bytes.proofs.Exact.{ok_is}
use Rattle.wf_grammar.proofs.ClassLaws.{spelled_is_read}
use Rattle.wf_grammar.proofs.grammar.one_class_a_file.Goals as goal

pub returns : goal.returns
returns c = λ bytes a b one two. ok_is a b (sym (spelled_is_read bytes a one) ∙ spelled_is_read bytes b two)

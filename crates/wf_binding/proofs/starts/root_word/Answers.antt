use Rattle.std.proofs.Common.{sym, subst}
use Rattle.std.specs.Result.{IfOk}
use Rattle.wf_names.specs.declared.root.Root.{Root}
use Rattle.wf_binding.specs.First.{IsWord}
use Rattle.wf_binding.specs.Validity.{IsBadRoot}
use Rattle.wf_binding.proofs.starts.root_word.Goals as goal

pub returns-in-StaticCall : goal.returns-in-StaticCall
returns-in-StaticCall c = subst (λ (r : Root). IfOk c.start_word.result (IsWord (IsBadRoot c.args.classes.now r))) (sym c.in-StaticCall.is) c.start_word.ensures

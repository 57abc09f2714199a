use Rattle.std.proofs.Common.{◌∙◌, ap, sym}
use Rattle.std.proofs.Common.{◌+◌}
use Rattle.wf_asm.proofs.ConstantLaws.{is_at, is_nowhere}
use Rattle.wf_asm.proofs.pool.Pool.index.Goals as goal

pub returns-in-Some-clause-place : goal.returns-in-Some-clause-place
returns-in-Some-clause-place c = is_at c.args.constant.now c.self.inside.constants.keys c.args.self.now c.in-Some.index c.self.view_is (sym c.get_index_of.ensures.index ∙ c.in-Some.is)

pub returns-in-None-clause-place : goal.returns-in-None-clause-place
returns-in-None-clause-place c = ap (λ n. n + 1) c.len.ensures.len ∙ is_nowhere c.args.constant.now c.self.inside.constants.keys c.args.self.now c.self.view_is (sym c.get_index_of.ensures.index ∙ c.in-None.is)

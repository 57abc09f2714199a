use Rattle.std.proofs.Common.{◌≡◌, ℕ, Bool, false, List, get_or, ap, subst, ◌∙◌, arith}
use Rattle.wf_blocks.specs.declared.body.Body.{Body}
use Rattle.wf_ssa.specs.Environments.{fails_there}
use Rattle.wf_ssa.proofs.env.Env.fails.Goals as goal

pub returns : goal.returns
returns c =
    let pc = c.args.pc in
    let own : c.is_marked.result ≡ fails_there c.self.inside.failing.now pc =
    c.is_marked.ensures ∙ ap (λ (ms : List Bool). get_or ms pc false) c.as_slice.ensures ∙ c.self.invariant.failed.each pc (omega (arith, c.ranges.pc)) in
    subst (λ (e : Body × List ℕ). c.is_marked.result ≡ fails_there e.1 pc) c.self.view_is own

use Rattle.std.proofs.Common.{◌≡◌, ℕ, List, Bool, Option, sym, ap, subst, ◌∙◌}
use Rattle.wf_blocks.specs.declared.body.Body.{Body}
use Rattle.wf_ssa.specs.declared.before.Before.{Before}
use Rattle.wf_ssa.specs.Environments.{IsKnown}
use Rattle.wf_ssa.specs.Keeping.{answered, AreFails, AreSound}
use Rattle.wf_ssa.proofs.env.Env.predicate_in.Goals as goal

pub returns : goal.returns
returns c =
    let b = c.self.inside.blocks.now in
    let failing = c.self.inside.failing.now in
    let p = c.args.place in
    let fails = subst (λ (ms : List Bool). AreFails failing ms) (sym c.as_slice.ensures) c.self.invariant.failed in
    let sound = subst (λ (ks : List (Option Before)). AreSound b failing ks) (sym c.as_slice-3.ensures.value) c.self.invariant.sound in
    let own : (k : Before) → IsKnown b failing p k → c.predicate_in.result ≡ k.predicate = λ k there.
    c.predicate_in.ensures failing k fails sound
    (ap (λ (ms : List Bool). answered b ms c.as_slice-3.result.now p) c.as_slice-2.ensures ∙ ap (λ (ks : List (Option Before)). answered b c.self.inside.meets ks p) c.as_slice-3.ensures.value ∙ c.self.invariant.all p k there) there in
    subst (λ (e : Body × List ℕ). (k : Before) → IsKnown e.0 e.1 p k → c.predicate_in.result ≡ k.predicate) c.self.view_is own

use Rattle.std.proofs.Common.{◌≡◌, ℕ, List, Some, sym, ap, ◌∙◌, subst}
use Rattle.wf_blocks.specs.declared.body.Body.{Body}
use Rattle.wf_blocks.specs.Answers.{place_of}
use Rattle.wf_ssa.specs.Environments.{IsKnown}
use Rattle.wf_ssa.proofs.env.Env.flow.Goals as goal

some_is : {x y : ℕ} → Some x ≡ Some y → x ≡ y
some_is e = cc

pub returns-in-Some : goal.returns-in-Some
returns-in-Some c =
    λ place k at there. let b = c.args.self.now.0 in
    let found : place_of b c.args.pc ≡ Some c.in-Some.place = ap (λ (e : Body × List ℕ). place_of e.0 c.args.pc) (sym c.self.view_is) ∙ sym c.place_of.ensures.place ∙ c.in-Some.is in
    c.flow_in.ensures k (subst (λ (p : ℕ). IsKnown b c.args.self.now.1 p k) (some_is (sym at ∙ found)) there)

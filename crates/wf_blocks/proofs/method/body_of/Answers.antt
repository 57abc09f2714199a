use Rattle.std.proofs.Common.{sym, subst, ◌∙◌, List, ℕ}
use Rattle.wf_blocks.specs.Answers.{IsMade}
use Rattle.wf_blocks.proofs.BodyLemmas.{made}
use Rattle.wf_blocks.proofs.method.body_of.Goals as goal

pub returns-in-Some-clause-made : goal.returns-in-Some-clause-made
returns-in-Some-clause-made c =
    subst (λ (pcs : List ℕ). IsMade c.in-Some.body pcs) (sym c.requires.places)
    (made c.args.desc.now c.args.is_static c.args.pool.now c.args.info.now c.args.code.now c.in-Some.body c.requires.few c.make_body.ensures.small.0 c.make_body.ensures.small.1
    (sym c.in_ok-body.ensures.made ∙ c.in-Some.is))

use Rattle.std.proofs.Common.{ap, ◌∙◌}
use Rattle.std.specs.Prelude.{position}
use Rattle.wf_own.specs.OwnNumbers.{same_own}
use Rattle.wf_own.proofs.Noting.{found_same}
use Rattle.wf_own.proofs.NumberLaws.{found_within}
use Rattle.wf_own.proofs.nodes.OwnNodes.position.Goals as goal

pub returns-clause-within : goal.returns-clause-within
returns-clause-within c =
    let own = c.args.own in
    found_within c.args.self.now own c.copied.result
    (c.copied.ensures ∙ c.get.ensures.value ∙ found_same c.self.inside.places own ∙ c.self.invariant own ∙ ap (position (same_own own)) c.self.view_is)

use Rattle.std.proofs.Common.{◌∙◌, ◌-◌, length, drop, ap, arith, length-drop}
use Rattle.std.proofs.lemmas.List.{take_all}
use Rattle.wf_resolve.proofs.resolve.element_of.Goals as goal

pub returns : goal.returns
returns c =
    let name = c.args.name.now in
    take_all (length name - c.dimensions.result) (drop c.dimensions.result name) (omega (arith, length-drop c.dimensions.result name)) ∙ ap (λ n. drop n name) c.dimensions.ensures.number

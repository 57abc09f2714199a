use Rattle.wf_actions.specs.Literals.{AreLiteralFields}
use Rattle.wf_actions.proofs.literals.literal_fields.Given as goal

abbrev pub invariant-loop-line : goal.invariant-loop-line
invariant-loop-line l = AreLiteralFields l.fn.classes l.fn.c.0 l.fn.lines l.line-index l.fields.items

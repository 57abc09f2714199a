use Rattle.std.proofs.Common.{◌+◌, List, sym, subst}
use Rattle.std.proofs.lemmas.Option.{slice_get-get_or}
use Rattle.wf_rows.specs.declared.action.LiteralField.{LiteralField}
use Rattle.wf_actions.specs.Literals.{AreLiteralFields}
use Rattle.wf_actions.specs.Literals.AreLiteralFields.{none, next}
use Rattle.wf_actions.proofs.literals.literal_fields.Goals as goal

pub loop-line-init : goal.loop-line-init
loop-line-init c = subst (λ (fs : List LiteralField). AreLiteralFields c.args.classes.now c.args.c.0 c.args.lines.now 0 fs) (sym c.new-fields.ensures.items) none

pub literal_field-requires : goal.literal_field-requires
literal_field-requires c = c.requires.each c.loop-line.line-index _ (slice_get-get_or c.args.lines.now c.loop-line.line-index _ c.loop-line-test.true)

pub loop-line-preserved : goal.loop-line-preserved
loop-line-preserved c =
    subst (λ (fs : List LiteralField). AreLiteralFields c.args.classes.now c.args.c.0 c.args.lines.now (c.loop-line.line-index + 1) fs) (sym c.in_ok-push_field.ensures)
    (next c.loop-line.line-index c.loop-line.fields.items _ c.literal_field.result c.loop-line.invariant (slice_get-get_or c.args.lines.now c.loop-line.line-index _ c.loop-line-test.true) c.literal_field.ensures)

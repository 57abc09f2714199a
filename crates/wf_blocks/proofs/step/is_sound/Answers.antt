use Rattle.std.proofs.Common.{length, sym, ap, ◌∙◌, Option}
use Rattle.wf_operation.specs.declared.operation.Operation.{Operation}
use Rattle.wf_blocks.specs.SeenKinds.{all_allowed}
use Rattle.wf_blocks.specs.Rows.{seen_at}
use Rattle.wf_blocks.specs.Bodies.{operation_wants, graph_of}
use Rattle.wf_blocks.specs.Walking.{unmet_there}
use Rattle.wf_blocks.proofs.step.is_sound.Goals as goal

pub returns-in-Some-clause-bad : goal.returns-in-Some-clause-bad
unfolding graph_of
returns-in-Some-clause-bad c =
    λ e. let l = c.meets.ensures.lacks e in
    let row = c.args.row.now in
    unmet_there l.slot l.there (ap (λ (o : Option Operation). all_allowed (operation_wants o (length row) l.slot) (seen_at row l.slot)) (sym c.in-Some.ensures) ∙ l.lacks)

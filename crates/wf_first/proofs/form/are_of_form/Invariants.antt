use Rattle.std.proofs.Common.{◌≡◌, ◌≤◌, Some, drop}
use Rattle.std.specs.Prelude.{IfSome}
use Rattle.wf_first.specs.FirstForm.{are_of_form}
use Rattle.wf_first.proofs.form.are_of_form.Given as goal

abbrev pub invariant-loop-placed : goal.invariant-loop-placed
invariant-loop-placed l = record {
  so_far : are_of_form l.path.pool.now l.path.desc.now l.path.room l.reached (drop l.placed-index l.operations) ≡ are_of_form l.path.pool.now l.path.desc.now l.path.room (Some 0) l.operations;
  room : IfSome l.reached (λ depth. depth ≤ l.path.room);
}

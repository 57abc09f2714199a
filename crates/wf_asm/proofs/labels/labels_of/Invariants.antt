use Rattle.std.proofs.Common.{◌≡◌, ◌≤◌, ◌^◌, [], drop}
use Rattle.wf_asm.specs.Building.{labels_on}
use Rattle.wf_asm.proofs.labels.labels_of.Given as goal

abbrev pub invariant-loop-statement : goal.invariant-loop-statement
invariant-loop-statement l = record {
  near : l.at ≤ 2 ^ 32;
  so_far : labels_on l.pool l.at l.labels (drop l.statement-index l.body) ≡ labels_on l.pool 0 [] l.body;
}

use Rattle.std.proofs.Common.{◌≡◌, ◌+◌, ◌-◌, ◌*◌, min, length}
use Rattle.wf_links.specs.Candidates.{AreChosen}
use Rattle.wf_links.proofs.picking.choices.Given as goal

abbrev pub invariant-loop-word : goal.invariant-loop-word
invariant-loop-word l = record {
  end : l.end ≡ 64 * l.word-index + 62;
  done : l.done ≡ min (64 * l.word-index - 2) (length l.types.names);
  chosen : AreChosen l.types l.callee l.done l.found.items;
}

use Rattle.std.proofs.Common.{ℕ, ◌*◌, ◌<◌, slice_index_or}
use Rattle.wf_system.specs.declared.pick.Pick.{Pick}
use Rattle.wf_system.proofs.fit.candidates_fit.Given as goal

abbrev pub invariant-loop-pick : goal.invariant-loop-pick
invariant-loop-pick l = (i : ℕ) (d : Pick) → i < l.pick-index → (slice_index_or l.table i d).candidate < 64 * l.words

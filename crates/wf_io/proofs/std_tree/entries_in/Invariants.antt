use Rattle.std.proofs.Common.{◌≤◌, vec_len}
use Rattle.wf_io.proofs.std_tree.entries_in.Given as goal

abbrev pub invariant-loop-found : goal.invariant-loop-found
invariant-loop-found g l = vec_len l.entries ≤ l.most

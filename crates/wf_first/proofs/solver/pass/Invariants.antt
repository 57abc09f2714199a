use Rattle.std.proofs.Common.{◌≡◌, ◌&&◌, drop}
use Rattle.wf_first.specs.Passes.{passed, is_quiet}
use Rattle.wf_first.proofs.solver.pass.Given as goal

abbrev pub invariant-loop-q : goal.invariant-loop-q
invariant-loop-q l = record {
  so_far : passed (drop l.q-index l.system) l.values ≡ passed l.system l.fn.values;
  quiet_so_far : (l.quiet && is_quiet (drop l.q-index l.system) l.values) ≡ is_quiet l.system l.fn.values;
}

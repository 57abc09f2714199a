use Rattle.std.proofs.Common.{◌≡◌, ◌+◌, ◌≤◌, drop}
use Rattle.wf_first.specs.declared.limits.TheConstants.{MAX_METHODS}
use Rattle.wf_first.specs.Roots.{methods_in}
use Rattle.wf_first.proofs.program.has_few_methods.Given as goal

abbrev pub invariant-loop-class : goal.invariant-loop-class
invariant-loop-class l = record {
  so_far : l.methods + methods_in (drop l.class-index l.classes) ≡ methods_in l.classes;
  few : l.methods ≤ MAX_METHODS;
}

use Rattle.std.proofs.Common.{◌<◌, ℕ, Option, length, get_or}
use Rattle.wf_resolve.specs.Upward.{FirstUp}
use Rattle.wf_classes.specs.World.{number}
use Rattle.wf_select.specs.Overriding.{Overrides}
use Rattle.wf_select.proofs.overriding.first_of_open.Given as goal

abbrev pub invariant-upward : goal.invariant-upward
invariant-upward l = record {
  in_there : l.d.0 < length l.classes;
  first : (r : Option ℕ) → FirstUp l.classes (λ x. Overrides l.classes (l.name, l.desc) x (number l.a.class)) l.d.0 r → FirstUp l.classes (λ x. Overrides l.classes (l.name, l.desc) x (number l.a.class)) l.fn.t.0 r;
}

abbrev pub decreases-upward : goal.decreases-upward
decreases-upward l = get_or l.ranks.heights.now l.d.0 0

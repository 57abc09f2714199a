use Rattle.std.proofs.Common.{◌<◌, ℕ, Option, length, get_or}
use Rattle.wf_resolve.specs.Upward.{FirstUp, Offers}
use Rattle.wf_resolve.proofs.upward.first_up.Given as goal

abbrev pub invariant-upward : goal.invariant-upward
invariant-upward l = record {
  in_there : l.d.0 < length l.classes;
  first : (r : Option ℕ) → FirstUp l.classes (Offers l.classes (l.name, l.desc) l.wanted) l.d.0 r → FirstUp l.classes (Offers l.classes (l.name, l.desc) l.wanted) l.fn.c.0 r;
}

abbrev pub decreases-upward : goal.decreases-upward
decreases-upward l = get_or l.ranks.heights.now l.d.0 0

use Rattle.wf_classes.specs.Above.IsAbove.{itself}
use Rattle.wf_classes.proofs.Sweep.{above_through, above_antisymmetric, above_lower, above_falls}
use Rattle.wf_classes.proofs.laws.classes_above_are_ordered.Goals as goal

pub returns : goal.returns
returns c = record {
  reflexive = λ classes k. itself k;
  transitive = above_through;
  antisymmetric = above_antisymmetric;
  falling = above_lower;
  inside = λ classes order heights k d h l p. (above_falls classes order heights k d h l p).0;
}

use Rattle.wf_classes.proofs.Sizes.{within_bytes}
use Rattle.wf_classes.proofs.laws.classes_are_within_their_bytes.Goals as goal

pub returns : goal.returns
returns c = within_bytes

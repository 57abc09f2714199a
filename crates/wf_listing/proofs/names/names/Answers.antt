use Rattle.std.proofs.Common.{refl}
use Rattle.wf_listing.specs.Names.{instruction_names}
use Rattle.wf_listing.proofs.names.names.Goals as goal

pub returns : goal.returns
unfolding instruction_names
returns c = refl

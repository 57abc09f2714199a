use Rattle.std.proofs.Common.{length}
use Rattle.wf_listing.proofs.lines.heads.+sum_of_flags.Given as goal

abbrev pub decreases-sum_of_flags : goal.decreases-sum_of_flags
decreases-sum_of_flags l = length l.words.now

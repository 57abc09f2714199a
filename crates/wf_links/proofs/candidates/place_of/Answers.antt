use Rattle.wf_links.proofs.Sorting.{found_is, not_missing}
use Rattle.wf_links.proofs.candidates.place_of.Goals as goal

pub unreachable-requires : goal.unreachable-requires
unreachable-requires c = not_missing c.args.candidates.now c.args.m c.in-Err.field-0 c.requires.ascending c.requires.there c.in-Err.ensures.position

pub returns : goal.returns
returns c = found_is c.args.candidates.now c.args.m c.in-Ok.place c.in-Ok.ensures.bound c.in-Ok.ensures.ok

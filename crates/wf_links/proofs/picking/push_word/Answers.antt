use Rattle.wf_links.proofs.Choosing.{chosen_over}
use Rattle.wf_links.proofs.picking.push_word.Goals as goal

pub returns-then-word-eq0 : goal.returns-then-word-eq0
returns-then-word-eq0 c = chosen_over c.args.types.now c.args.callee c.args.from c.args.to c.args.found.now.items c.requires.order c.requires.before (c.requires.none c.if-word-eq0.true)

use Rattle.world.specs.Command.{words_of}
use Rattle.world.proofs.ClauseLaws.{no_words}
use Rattle.world.proofs.run.analyse.Goals as goal

pub returns-in-None : goal.returns-in-None
returns-in-None g c = no_words (words_of c.args.words.now) _ c.in-None.ensures.none

pub returns-in-Some : goal.returns-in-Some
returns-in-Some g c = c.report_of.ensures (words_of c.args.words.now) c.in-Some.ensures.some

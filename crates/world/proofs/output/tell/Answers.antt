use Rattle.world.proofs.OutputLaws.{got_from}
use Rattle.world.proofs.output.tell.Goals as goal

pub returns : goal.returns
returns g c = λ had h. got_from c.write_all.result had c.args.line.now _ _ _ (c.write_all.ensures.all had h) (c.write_all.ensures.cut had h) c.write_all.ensures.rose

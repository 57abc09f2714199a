use Rattle.wf_classes.specs.Links.{AreLinks}
use Rattle.wf_classes.proofs.links.links_of.Given as goal

abbrev pub invariant-loop-class : goal.invariant-loop-class
invariant-loop-class l = AreLinks l.list l.class-index l.links.items

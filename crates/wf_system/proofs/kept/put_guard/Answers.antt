use Rattle.wf_system.specs.Bodies.{tables_of}
use Rattle.wf_system.proofs.KeptLaws.{puts_for_guard}
use Rattle.wf_system.proofs.kept.put_guard.Goals as goal

pub returns-in-NonEmpty : goal.returns-in-NonEmpty
returns-in-NonEmpty c = λ nodes most. puts_for_guard c.put.result (tables_of nodes most c.args.side.now) c.args.q c.args.lists.now c.put.new.lists c.args.guard _ c.in-NonEmpty.is c.put.ensures

pub returns-in-HasType : goal.returns-in-HasType
returns-in-HasType c = λ nodes most. puts_for_guard c.put-in-HasType.result (tables_of nodes most c.args.side.now) c.args.q c.args.lists.now c.put-in-HasType.new.lists c.args.guard _ c.in-HasType.is c.put-in-HasType.ensures

pub returns-in-HasUnder : goal.returns-in-HasUnder
returns-in-HasUnder c = λ nodes most. puts_for_guard c.put-in-HasUnder.result (tables_of nodes most c.args.side.now) c.args.q c.args.lists.now c.put-in-HasUnder.new.lists c.args.guard _ c.in-HasUnder.is c.put-in-HasUnder.ensures

pub returns-in-Linked : goal.returns-in-Linked
returns-in-Linked c = λ nodes most. puts_for_guard c.put-in-Linked.result (tables_of nodes most c.args.side.now) c.args.q c.args.lists.now c.put-in-Linked.new.lists c.args.guard _ c.in-Linked.is c.put-in-Linked.ensures

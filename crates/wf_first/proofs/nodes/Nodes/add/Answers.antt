use Rattle.wf_first.proofs.NodeLaws.{key_is_added}
use Rattle.wf_first.proofs.nodes.Nodes.add.Goals as goal

pub returns : goal.returns
returns c = key_is_added c.args.node c.self.inside.keys.keys c.insert.new.self.keys c.args.self.now c.self.view_is c.in_ok-insert.ensures.keys

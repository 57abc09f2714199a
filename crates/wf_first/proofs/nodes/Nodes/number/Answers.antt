use Rattle.std.proofs.Common.{◌∙◌, sym}
use Rattle.wf_first.proofs.NodeLaws.{key_is_at, key_is_nowhere}
use Rattle.wf_first.proofs.nodes.Nodes.number.Goals as goal

pub returns-in-Some : goal.returns-in-Some
returns-in-Some c = key_is_at c.args.node c.self.inside.keys.keys c.args.self.now c.in-Some.number c.self.view_is (sym c.get_index_of.ensures.index ∙ c.in-Some.is)

pub returns-in-None : goal.returns-in-None
returns-in-None c = c.len.ensures.len ∙ key_is_nowhere c.args.node c.self.inside.keys.keys c.args.self.now c.self.view_is (sym c.get_index_of.ensures.index ∙ c.in-None.is)

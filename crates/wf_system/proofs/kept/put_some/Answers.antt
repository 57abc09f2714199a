use Rattle.std.proofs.Common.{Option, OnOk, sym, subst}
use Rattle.wf_base.specs.declared.ids.NodeId.{NodeId}
use Rattle.wf_system.specs.Bodies.{is_node, elem_is}
use Rattle.wf_system.specs.Kept.{PutsWhere}
use Rattle.wf_system.proofs.kept.put_some.Goals as goal

pub returns-in-Some : goal.returns-in-Some
returns-in-Some c = subst (λ (e : Option NodeId). OnOk c.put.result (PutsWhere (λ n. elem_is is_node e n) c.args.q c.args.lists.now c.put.new.lists)) (sym c.in-Some.is) c.put.ensures

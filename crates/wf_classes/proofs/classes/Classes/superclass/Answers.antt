use Rattle.std.proofs.Common.{◌≡◌, List, ap, subst, length, refl, arith, Some, false}
use Rattle.std.specs.Prelude.{IfSome, IfNone}
use Rattle.std.proofs.lemmas.Option.{slice_get_read}
use Rattle.wf_data.specs.declared.class_info.ClassInfo.{ClassInfo}
use Rattle.wf_names.specs.Names.{object_name}
use Rattle.wf_classes.specs.World.{kind_at, name_at, number}
use Rattle.wf_classes.specs.Links.{IsLinkOf}
use Rattle.wf_classes.proofs.Ranking.{super_kind, super_none}
use Rattle.wf_classes.proofs.classes.Classes.superclass.Goals as goal

link : (c : goal.After-result-1) → IsLinkOf c.self.inside.list c.args.c.0 c.index.result.now
link c =
    let links = c.self.inside.links.items in
    c.self.invariant.linked.each c.args.c.0 c.index.result.now (slice_get_read links (length links) c.args.c.0 c.index.result.now refl (omega (arith, ap length c.self.view_is, c.self.invariant.linked.count, c.requires)) c.index.ensures)

pub returns-clause-class : goal.returns-clause-class
returns-clause-class c = subst (λ (xs : List ClassInfo). IfSome c.index.result.now.superclass (λ s. kind_at xs (number s) ≡ Some false)) c.self.view_is (super_kind c.self.inside.list c.self.invariant.world c.args.c.0 c.index.result.now.superclass (link c).superclass)

pub returns-clause-none : goal.returns-clause-none
returns-clause-none c = subst (λ (xs : List ClassInfo). IfNone c.index.result.now.superclass (name_at xs c.args.c.0 ≡ Some object_name)) c.self.view_is
    (super_none c.self.inside.list c.self.invariant.world c.args.c.0 (omega (arith, ap length c.self.view_is, c.requires)) c.index.result.now.superclass (link c).superclass)

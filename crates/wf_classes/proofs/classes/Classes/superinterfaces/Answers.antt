use Rattle.std.proofs.Common.{◌≡◌, ◌∙◌, List, ap, subst, map, length, refl, arith, Some, true}
use Rattle.std.specs.Prelude.{All, slice_get}
use Rattle.std.proofs.lemmas.Option.{slice_get_read}
use Rattle.wf_data.specs.declared.class_info.ClassInfo.{ClassInfo}
use Rattle.wf_classes.specs.World.{kind_at, number, superinterfaces_of}
use Rattle.wf_classes.proofs.Ranking.{interfaces_full, interface_kinds}
use Rattle.wf_classes.proofs.classes.Classes.superinterfaces.Goals as goal

numbers : (c : goal.After-as_slice) → map number c.as_slice.result.now ≡ superinterfaces_of c.self.inside.list c.args.c.0
numbers c =
    let links = c.self.inside.links.items in
    let link = c.self.invariant.linked.each c.args.c.0 c.index.result.now (slice_get_read links (length links) c.args.c.0 c.index.result.now refl (omega (arith, ap length c.self.view_is, c.self.invariant.linked.count, c.requires)) c.index.ensures) in
    ap (map number) c.as_slice.ensures.value ∙ link.superinterfaces

pub returns-clause-numbers : goal.returns-clause-numbers
returns-clause-numbers c = subst (λ (xs : List ClassInfo). map number c.as_slice.result.now ≡ superinterfaces_of xs c.args.c.0) c.self.view_is (numbers c)

pub returns-clause-all : goal.returns-clause-all
returns-clause-all c k e = interfaces_full c.self.inside.list c.self.invariant.world c.args.c.0 c.as_slice.result.now (numbers c) k (ap (λ (xs : List ClassInfo). slice_get xs c.args.c.0) c.self.view_is ∙ e)

pub returns-clause-interfaces : goal.returns-clause-interfaces
returns-clause-interfaces c = subst (λ (xs : List ClassInfo). All (λ s. kind_at xs (number s) ≡ Some true) c.as_slice.result.now) c.self.view_is (interface_kinds c.self.inside.list c.self.invariant.world c.args.c.0 c.as_slice.result.now (numbers c))

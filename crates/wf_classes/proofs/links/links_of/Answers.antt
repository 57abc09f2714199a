use Rattle.std.proofs.Common.{◌∙◌, ap, refl, length}
use Rattle.std.specs.List.{filter_map}
use Rattle.std.proofs.lemmas.Option.{slice_get_read}
use Rattle.wf_classes.specs.World.{class_of}
use Rattle.wf_classes.specs.declared.links.Link.{Link}
use Rattle.wf_classes.proofs.Linking.{links_more}
use Rattle.wf_classes.proofs.links.links_of.Goals as goal

pub loop-class-preserved : goal.loop-class-preserved
loop-class-preserved c =
    let list = c.args.list.now in
    let k = c.class-item.result in
    let read = slice_get_read list (length list) c.loop-class.class-index k refl c.loop-class-test.true c.class-item.is in
    let link : Link = record { superclass = c.superclass_of-superclass.result; superinterfaces = c.in_ok-superinterfaces.superinterfaces } in
    rw c.in_ok-push.ensures.items (links_more list c.loop-class.class-index c.loop-class.links.items link k read c.superclass_of-superclass.ensures
    (c.in_ok-superinterfaces.ensures ∙ ap (filter_map (class_of list)) c.as_slice.ensures) c.loop-class.invariant)

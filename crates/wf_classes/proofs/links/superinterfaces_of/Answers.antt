use Rattle.std.proofs.Common.{◌∙◌, ◌++◌, take, ap, sym}
use Rattle.std.specs.Prelude.{option_to_list}
use Rattle.std.specs.List.{filter_map}
use Rattle.wf_classes.specs.World.{class_of}
use Rattle.wf_classes.proofs.Linking.{filter_step}
use Rattle.wf_classes.proofs.links.superinterfaces_of.Goals as goal

pub loop-name-preserved : goal.loop-name-preserved
loop-name-preserved c =
    let names = c.args.names.now in
    let list = c.args.list.now in
    let i = c.loop-name.name-index in
    let x = c.name-item.result in
    c.in_ok-push_number.ensures
    ∙ ap (λ xs. xs ++ option_to_list (class_of list c.as_slice.result.now)) c.loop-name.invariant
    ∙ ap (λ n. filter_map (class_of list) (take i names) ++ option_to_list (class_of list n)) (c.as_slice.ensures ∙ c.name-item.is)
    ∙ sym (filter_step (class_of list) names i x c.loop-name-test.true)

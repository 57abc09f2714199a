use Rattle.std.proofs.Common.{◌≡◌, true, sym, subst, List, ℕ}
use Rattle.wf_data.specs.declared.class_info.ClassInfo.{ClassInfo}
use Rattle.wf_classes.specs.World.{IsClosedWorld}
use Rattle.wf_binding.specs.Named.{is_type}
use Rattle.wf_binding.proofs.TypeNames.{object_there}
use Rattle.wf_binding.proofs.numbering.object_number.Goals as goal

pub target_number-requires : goal.target_number-requires
target_number-requires c =
    let world = subst IsClosedWorld c.classes.ensures c.list.ensures.world in
    subst (λ (name : List ℕ). is_type c.args.types.now.classes name ≡ true) (sym c.as_slice.ensures) (object_there c.args.types.now.classes world)

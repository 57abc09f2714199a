use Rattle.wf_binding.proofs.TypeNames.{type_there}
use Rattle.wf_binding.proofs.numbering.target_number.Goals as goal

pub unreachable-requires : goal.unreachable-requires
unreachable-requires c =
    let r = type_there c.args.types.now.classes c.args.name.now c.requires in
    c.in-None.ensures.found r.reference r.refers

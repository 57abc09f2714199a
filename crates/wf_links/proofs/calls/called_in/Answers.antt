use Rattle.wf_links.proofs.ShortCodes.{short_code}
use Rattle.wf_links.proofs.calls.called_in.Goals as goal

pub instructions_of-requires : goal.instructions_of-requires
instructions_of-requires c =
    let declared = c.declared_method-declared in
    short_code c.classes-classes.result.now c.args.m.0 declared.result.class.0 declared.result.info.now c.list.ensures.world declared.ensures.is

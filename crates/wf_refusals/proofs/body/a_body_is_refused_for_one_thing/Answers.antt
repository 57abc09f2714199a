use Rattle.wf_refusals.proofs.OneThing.{one, readable}
use Rattle.wf_refusals.proofs.body.a_body_is_refused_for_one_thing.Goals as goal

pub returns : goal.returns
returns c =
    let law = c.a_code_is_read_in_one_way.ensures in
    record { one = one law.instructions law.fault law.apart; apart = readable law.instructions law.fault law.apart }

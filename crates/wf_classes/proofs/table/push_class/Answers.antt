use Rattle.std.proofs.Common.{◌≡◌, arith, length, vec_len}
use Rattle.wf_classes.proofs.Tables.{members_more}
use Rattle.wf_classes.proofs.table.push_class.Goals as goal

pub returns : goal.returns
returns c keys own l h list =
    let size : vec_len c.args.members.now.places ≡ length c.args.members.now.places.items = omega (arith, c.args.members.now.places.ok.0) in
    rw (c.in_ok-push.ensures.items, c.in_ok-push_places.ensures, c.len.ensures, size) (members_more keys c.args.class _ _ _ own l list h)

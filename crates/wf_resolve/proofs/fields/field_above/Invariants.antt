use Rattle.std.proofs.Common.{get_or}
use Rattle.wf_resolve.proofs.FieldSearch.{IsOnWay}
use Rattle.wf_resolve.proofs.fields.field_above.Given as goal

abbrev pub invariant-upward : goal.invariant-upward
invariant-upward l = IsOnWay l.classes l.name l.desc l.fn.c.0 l.d.0

abbrev pub decreases-upward : goal.decreases-upward
decreases-upward l = get_or l.ranks.heights.now l.d.0 0

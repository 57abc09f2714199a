use Rattle.std.proofs.Common.{◌+◌, ◌*◌}
use Rattle.std.specs.Int.{from_bool}
use Rattle.wf_lattice.proofs.JoinLaws.{joins_flags, flags_bytes}
use Rattle.wf_lattice.proofs.filter.join_flags.Goals as goal

pub returns : goal.returns
returns c = joins_flags c.args.into.now c.args.saturated c.args.null (from_bool c.args.saturated + 2 * from_bool c.args.null) (flags_bytes c.args.saturated c.args.null) c.requires

use Rattle.wf_subtype.proofs.Making.{nothing_made}
use Rattle.wf_subtype.proofs.universe.insert_made.Goals as goal

pub returns : goal.returns
returns c = nothing_made c.args.classes.now c.args.types.now.keys c.args.pool.now c.args.instr.now c.if-instr.false c.if-instr-2.false c.if-instr-3.false

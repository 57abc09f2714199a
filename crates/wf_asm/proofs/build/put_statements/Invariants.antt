use Rattle.std.proofs.Common.{◌≡◌, drop}
use Rattle.wf_asm.specs.Building.{body_on, nothing_yet}
use Rattle.wf_asm.proofs.build.put_statements.Given as goal

abbrev pub invariant-loop-statement : goal.invariant-loop-statement
invariant-loop-statement l = body_on l.pool l.labels l.so_far (drop l.statement-index l.body) ≡ body_on l.pool l.labels nothing_yet l.body

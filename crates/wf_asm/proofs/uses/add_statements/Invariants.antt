use Rattle.std.proofs.Common.{◌≡◌, drop}
use Rattle.std.specs.List.{flat_map}
use Rattle.wf_asm.specs.Constants.{with_constants, uses_of_statement}
use Rattle.wf_asm.proofs.uses.add_statements.Given as goal

abbrev pub invariant-loop-statement : goal.invariant-loop-statement
invariant-loop-statement l = with_constants l.pool (flat_map uses_of_statement (drop l.statement-index l.body)) ≡ with_constants l.initial.pool (flat_map uses_of_statement l.body)

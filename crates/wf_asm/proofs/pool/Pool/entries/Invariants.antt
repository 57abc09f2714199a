use Rattle.std.proofs.Common.{◌≡◌, ◌++◌, map, drop}
use Rattle.wf_asm.specs.Constants.{entry_of, pool_of}
use Rattle.wf_asm.proofs.pool.Pool.entries.Given as goal

abbrev pub invariant-loop-constant : goal.invariant-loop-constant
invariant-loop-constant l = l.pool.items ++ map (entry_of l.self) (drop l.constant-index l.self) ≡ pool_of l.self

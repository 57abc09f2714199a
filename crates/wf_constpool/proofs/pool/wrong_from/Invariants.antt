use Rattle.std.proofs.Common.{◌≡◌, ◌+◌, drop}
use Rattle.wf_grammar.specs.Reading.{wrong_from}
use Rattle.wf_constpool.specs.Sizes.{sizes}
use Rattle.wf_constpool.proofs.pool.wrong_from.Given as goal

abbrev pub invariant-loop-entry : goal.invariant-loop-entry
invariant-loop-entry l = record {
  found : wrong_from l.pool l.place (drop l.entry-index l.pool) ≡ wrong_from l.pool l.start l.pool;
  fits : l.place + sizes (drop l.entry-index l.pool) ≡ l.start + sizes l.pool;
}

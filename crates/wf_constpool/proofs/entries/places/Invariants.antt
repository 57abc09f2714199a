use Rattle.std.proofs.Common.{◌≡◌, ◌+◌, ◌-◌, ◌∷◌}
use Rattle.wf_data.specs.declared.class_info.PoolEntry.TheVariants.{Unusable}
use Rattle.wf_bytes.specs.Reading.{many_on}
use Rattle.wf_grammar.specs.Reading.{pool_place}
use Rattle.wf_constpool.specs.Sizes.{sizes, constants}
use Rattle.wf_bytes.proofs.Loops.{with_front_on}
use Rattle.wf_constpool.proofs.entries.places.Given as goal

abbrev pub invariant-loop : goal.invariant-loop
invariant-loop l = record {
  first : l.entries.items ≡ Unusable ∷ constants l.entries.items;
  read : with_front_on (constants l.entries.items) (many_on pool_place (l.count - l.counter) (l.left, l.wide) l.cursor) ≡ many_on pool_place l.count (l.fn.left, l.fn.wide) l.fn.cursor;
  passed : l.cursor.at ≡ l.fn.cursor.at + sizes l.entries.items;
}

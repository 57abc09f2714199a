use Rattle.std.proofs.Common.{◌≡◌, List, Result, Ok, Err}
use Rattle.std.specs.Prelude.{IfOk}
use Rattle.wf_data.specs.declared.class_info.PoolEntry.{PoolEntry}
use Rattle.wf_grammar.specs.ClassFile.{PoolIs}
use Rattle.wf_bytes.specs.Exactness.{Took}
use Rattle.wf_bytes.specs.Place.{Place}
use Rattle.wf_grammar.specs.Reading.{pool_at}
use Rattle.wf_constpool.specs.declared.fault.ClassFault.{ClassFault}
use Rattle.wf_constpool.specs.Readers.{Gives}
use Rattle.wf_constpool.proofs.pool.read_pool.Goals as goal

-- by the law, what was read is spelled
taken : (p q : Place) (result : Result (List PoolEntry) ClassFault) → ((pool : List PoolEntry) → pool_at p ≡ Ok (pool, q) → Took PoolIs p q pool) → Gives q result (pool_at p) → IfOk result (Took PoolIs p q)
taken p q (Ok pool) law e = law pool e
taken p q (Err fault) law e = tt

pub returns-clause-spelled : goal.returns-clause-spelled
returns-clause-spelled c = λ bytes. taken _ _ c.pool_at.result (λ pool. c.pools_are_read_exactly.ensures.found _ _ pool bytes) c.pool_at.ensures

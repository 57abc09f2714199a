-- What a method is refused for whose instructions can't be read.
use Rattle.std.proofs.Common.{◌≡◌, ℕ, List, subst}
use Rattle.wf_data.specs.declared.class_info.PoolEntry.{PoolEntry}
use Rattle.wf_refusals.specs.declared.body.BodyFault.{BodyFault}
use Rattle.wf_refusals.specs.declared.body.BodyFault.TheVariants.{Refused, NoMemory}
use Rattle.wf_refusals.specs.Faults.{IsBodyFault}
use Rattle.wf_refusals.specs.Refusals.{IsUnreadable}
use Rattle.wf_refusals.specs.Refusals.IsRefused.{code}
use Rattle.wf_body.specs.Sources.{MethodSource, IsFaultOf}

pub unreadable : (s : MethodSource) (pool : List PoolEntry) (bytes : List ℕ) (fault : BodyFault) → pool ≡ s.pool → bytes ≡ s.code.code → IsBodyFault pool bytes fault → IsFaultOf s fault
unreadable s pool bytes (Refused r) p b h = code r (subst (λ xs. IsUnreadable s.pool xs r) b (subst (λ (es : List PoolEntry). IsUnreadable es bytes r) p h))
unreadable s pool bytes NoMemory p b h = tt

-- Guards and values are monotone, and a system has one least solution.
use Rattle.std.proofs.Common.{◌≡◌, refl}
use Rattle.wf_sys.specs.declared.flow.Flow.{Flow}
use Rattle.wf_sys.specs.declared.inequality.Guard.{Guard}
use Rattle.wf_sys.specs.declared.inequality.Guard.TheVariants.{Always, NonEmpty}
use Rattle.wf_sys.specs.declared.inequality.ValueOp.{ValueOp}
use Rattle.wf_sys.specs.declared.inequality.ValueOp.TheVariants.{Token, IntIs, Copy}
use Rattle.wf_sys.specs.declared.inequality.Inequality.{Inequality}
use Rattle.wf_sys.specs.Values.{◌⊑◌}
use Rattle.wf_sys.specs.System.{GuardHolds, value_in, IsBelow, Least}
use Rattle.wf_sys.proofs.ValueLaws.{below_both_ways, flows_above}

pub guard_rises : {N : Type 0} (guard : Guard N) (x y : N → Flow) → IsBelow x y → GuardHolds guard x → GuardHolds guard y
guard_rises Always x y p h = tt
guard_rises (NonEmpty n) x y p h = flows_above (x n) (y n) (p n) h

pub value_rises : {N : Type 0} (value : ValueOp N) (x y : N → Flow) → IsBelow x y → value_in value x ⊑ value_in value y
value_rises Token x y p = tt
value_rises (IntIs c) x y p = refl
value_rises (Copy n) x y p = p n

pub least_is_one : {N : Type 0} (System : Inequality N → Type 0) (Seeds : N → Flow → Type 0) (x y : N → Flow) → Least System Seeds x → Least System Seeds y → (n : N) → x n ≡ y n
least_is_one System Seeds x y p q n = below_both_ways (x n) (y n) (p.least y q.solves n) (q.least x p.solves n)

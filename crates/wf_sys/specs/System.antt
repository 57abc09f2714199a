-- Systems of inequalities and their least solution. A system is the set of its inequalities, over names of
-- nodes of any type; an assignment gives each node a value.
use Rattle.wf_sys.specs.declared.flow.Flow.{Flow}
use Rattle.wf_sys.specs.declared.flow.Flow.TheVariants.{Set, Is}
use Rattle.wf_sys.specs.declared.inequality.Guard.{Guard}
use Rattle.wf_sys.specs.declared.inequality.Guard.TheVariants.{Always, NonEmpty}
use Rattle.wf_sys.specs.declared.inequality.ValueOp.{ValueOp}
use Rattle.wf_sys.specs.declared.inequality.ValueOp.TheVariants.{Token, IntIs, Copy}
use Rattle.wf_sys.specs.declared.inequality.Inequality.{Inequality}
use Rattle.wf_sys.specs.Values.{◌⊑◌, IsNonEmpty}

-- the guard holds in the assignment
abbrev pub GuardHolds : {N : Type 0} → Guard N → (N → Flow) → Type 0
GuardHolds Always x = Unit {0}
GuardHolds (NonEmpty n) x = IsNonEmpty (x n)

-- each node has a value at most that of the other
abbrev pub IsBelow : {N : Type 0} → (N → Flow) → (N → Flow) → Type 0
IsBelow {N = N} x y = (n : N) → x n ⊑ y n

-- what the inequality joins into its target
abbrev pub value_in : {N : Type 0} → ValueOp N → (N → Flow) → Flow
value_in Token x = Set
value_in (IntIs c) x = Is c
value_in (Copy n) x = x n

-- where the guard holds, the target is at least the value
abbrev pub IsMet : {N : Type 0} → Inequality N → (N → Flow) → Type 0
IsMet q x = GuardHolds q.guard x → value_in q.value x ⊑ x q.target

-- The assignment solves the system above the seeds: it is at least each seed, and meets each inequality.
pub record Solves {N : Type 0} (System : Inequality N → Type 0) (Seeds : N → Flow → Type 0) (x : N → Flow) : Type 0 where
  pub above : (n : N) (v : Flow) → Seeds n v → v ⊑ x n
  pub meets : (q : Inequality N) → System q → IsMet q x

-- It solves, and is below every assignment that does.
pub record Least {N : Type 0} (System : Inequality N → Type 0) (Seeds : N → Flow → Type 0) (x : N → Flow) : Type 0 where
  pub solves : Solves System Seeds x
  pub least : (y : N → Flow) → Solves System Seeds y → (n : N) → x n ⊑ y n

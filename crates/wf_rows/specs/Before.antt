-- What is known in front of a place, and the nodes and rows that are named from there (this project's own, after SkipFlow,
-- CGO 2025).
use Rattle.std.specs.Prelude.{ℕ, ◌-◌, List, length, slice_index_or}
use Rattle.wf_base.specs.declared.ids.MethodId.{MethodId}
use Rattle.wf_base.specs.declared.kind.Kind.{Kind}
use Rattle.wf_base.specs.declared.kind.Kind.TheVariants as kind
use Rattle.wf_system.specs.declared.inequality.Guard.{Guard}
use Rattle.wf_system.specs.declared.inequality.Guard.TheVariants.{NonEmpty}
use Rattle.wf_system.specs.declared.inequality.ValueOp.{ValueOp}
use Rattle.wf_system.specs.declared.inequality.Inequality.{Inequality}
use Rattle.wf_rows.specs.declared.node.Node.{Node}
use Rattle.wf_rows.specs.declared.node.Node.TheVariants.{Nothing, In}
use Rattle.wf_rows.specs.declared.node.Own.{Own}
use Rattle.wf_rows.specs.declared.node.Own.TheVariants as own

-- What is known in front of a place of a body, or along one edge into it.
pub record Before : Type 0 where
  pub method : MethodId
  pub pc : ℕ
  -- what says whether control comes there
  pub predicate : Node Own
  -- what each slot holds, locals first, the top of the stack last; Nothing where a slot is unused
  pub slots : List (Node Own)

-- what the instruction here gives
abbrev pub given : Before → Node Own
given k = In (own.Result k.pc)

-- the candidates of the call here
abbrev pub links : Before → Node Own
links k = In (own.Links k.pc)

-- what is left of an operand of the branch here, along an edge
abbrev pub refined : Before → ℕ → ℕ → Node Own
refined k edge operand = In (own.Refined k.pc edge operand)

-- what the slot holds that stands so deep, where 0 is the top of the stack
abbrev pub operand : Before → ℕ → Node Own
operand k depth = slice_index_or k.slots (length k.slots - depth - 1) Nothing

-- the value of a kind at the top: that of a long is named by its first slot (JVMS 2.6.2)
abbrev pub value : Before → Kind → Node Own
value k kind.Int = operand k 0
value k kind.Ref = operand k 0
value k kind.Float = operand k 0
value k kind.Long = operand k 1
value k kind.Double = operand k 1

-- where the guard holds, the target is at least the value
abbrev pub row_under : Guard (Node Own) → Node Own → ValueOp (Node Own) → Inequality (Node Own)
row_under guard target value = record { target = target; guard = guard; value = value }

-- where control comes here, the target is at least the value
abbrev pub row : Before → Node Own → ValueOp (Node Own) → Inequality (Node Own)
row k target value = row_under (NonEmpty k.predicate) target value

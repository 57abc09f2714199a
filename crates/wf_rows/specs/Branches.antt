-- Rows of branches and switches: what is left of each operand along each edge (after SkipFlow, CGO 2025).
use Rattle.std.specs.Prelude.{ℕ, List, [], ◌∷◌, ◌++◌, length, Option, Some, None, option_map}
use Rattle.wf_data.specs.declared.instr.Case.{Case}
use Rattle.wf_operation.specs.declared.next.Left.{Left}
use Rattle.wf_operation.specs.declared.next.Left.TheVariants as left
use Rattle.wf_operation.specs.declared.next.Next.{Next}
use Rattle.wf_operation.specs.declared.next.Next.TheVariants.{Falls, Jumps, Branches, Switches, Returns, Throws}
use Rattle.wf_operation.specs.declared.next.Test.{Test}
use Rattle.wf_operation.specs.declared.next.Test.TheVariants.{ToZero, Ints, Refs, ToNull}
use Rattle.wf_operation.specs.Nexts.{left_of}
use Rattle.wf_system.specs.declared.inequality.ValueOp.{ValueOp}
use Rattle.wf_system.specs.declared.inequality.ValueOp.TheVariants.{IntRefine, IntRefineBy, NotIn, RefEq, RefNe, OnlyNull, NoNull}
use Rattle.wf_system.specs.declared.inequality.Inequality.{Inequality}
use Rattle.wf_rows.specs.declared.node.Node.{Node}
use Rattle.wf_rows.specs.declared.node.Own.{Own}
use Rattle.wf_rows.specs.Before.{Before, refined, operand, row}
use Rattle.wf_rows.specs.Each.{each_from}

-- what is left of an operand, as a value: the operand's node, the other operand's, and the key list of the switch
abbrev pub left_value : Node Own → Node Own → ℕ → Left → ValueOp (Node Own)
left_value this other keys (left.Compared c) = IntRefine c this other
left_value this other keys (left.ComparedTo c j) = IntRefineBy c this j
left_value this other keys left.NoKey = NotIn this keys
left_value this other keys left.SameRef = RefEq this other
left_value this other keys left.OtherRef = RefNe this other
left_value this other keys left.OnlyNull = OnlyNull this
left_value this other keys left.NoNull = NoNull this

-- operand 1 of a test: it stands below operand 2, where there is one
abbrev pub tested : Before → Test → Node Own
tested k (ToZero c) = operand k 0
tested k (Ints c) = operand k 1
tested k (Refs e) = operand k 1
tested k (ToNull e) = operand k 0

abbrev pub first_operand : Before → Next → Node Own
first_operand k (Branches test to) = tested k test
first_operand k next = operand k 0

-- the row of an operand along an edge, where the edge says anything of it
abbrev pub left_rows : Before → Node Own → Option (ValueOp (Node Own)) → List (Inequality (Node Own))
left_rows k target None = []
left_rows k target (Some left) = row k target left ∷ []

-- the rows of both operands along an edge
abbrev pub along_rows : Before → Next → ℕ → ℕ → List (Inequality (Node Own))
along_rows k next keys edge =
    left_rows k (refined k edge 1) (option_map (left_value (first_operand k next) (operand k 0) keys) (left_of next edge 1))
    ++ left_rows k (refined k edge 2) (option_map (left_value (operand k 0) (first_operand k next) keys) (left_of next edge 2))

-- a case of a switch
abbrev pub case_rows : Before → Next → ℕ → ℕ → Case → List (Inequality (Node Own))
case_rows k next keys edge case = along_rows k next keys edge

-- ifeq to if_acmpne, ifnull, ifnonnull: the jump and the fall-through; a switch: its cases and the default
abbrev pub branch_rows : Before → Next → ℕ → List (Inequality (Node Own))
branch_rows k (Branches test to) keys = along_rows k (Branches test to) keys 0 ++ along_rows k (Branches test to) keys 1
branch_rows k (Switches cases default) keys =
    each_from (case_rows k (Switches cases default) keys) 0 cases ++ along_rows k (Switches cases default) keys (length cases)
branch_rows k Falls keys = []
branch_rows k (Jumps to) keys = []
branch_rows k (Returns kind) keys = []
branch_rows k Throws keys = []

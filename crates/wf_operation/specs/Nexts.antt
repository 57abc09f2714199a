-- Where an instruction leads, and what is left of its operands there (JVMS 6.5; the refinement is that of SkipFlow,
-- CGO 2025).
use Rattle.std.specs.Prelude.{ℕ, ◌+◌, pos, ◌||◌, List, length, Option, Some, None, slice_get, ◌==◌, unwrap_or, option_map, if◌then◌else◌}
use Rattle.wf_base.specs.Comparisons.{negated, exchanged}
use Rattle.wf_base.specs.declared.cmp.Cmp.TheVariants.{Eq}
use Rattle.wf_data.specs.declared.instr.Case.{Case}
use Rattle.wf_operation.specs.declared.sort.Equality.{Equality}
use Rattle.wf_operation.specs.declared.sort.Equality.TheVariants.{Same, Different}
use Rattle.wf_operation.specs.declared.next.Test.{Test}
use Rattle.wf_operation.specs.declared.next.Test.TheVariants.{ToZero, Ints, Refs, ToNull}
use Rattle.wf_operation.specs.declared.next.Next.{Next}
use Rattle.wf_operation.specs.declared.next.Next.TheVariants.{Falls, Jumps, Branches, Switches, Returns, Throws}
use Rattle.wf_operation.specs.declared.next.Left.{Left}
use Rattle.wf_operation.specs.declared.next.Left.TheVariants.{Compared, ComparedTo, NoKey, SameRef, OtherRef, OnlyNull, NoNull}

-- what references have to be where they don't have to be so
abbrev pub other : Equality → Equality
other Same = Different
other Different = Same

-- how many edges lead on from an instruction, handlers aside
abbrev pub edge_count : Next → ℕ
edge_count Falls = 1
edge_count (Jumps to) = 1
edge_count (Branches test to) = 2
edge_count (Switches cases default) = length cases + 1
edge_count (Returns kind) = 0
edge_count Throws = 0

-- Where an edge leads: to a place, or to the instruction behind. Edge 0 of a branch is its jump and edge 1 its
-- fall-through; the edges of a switch are its cases in order, then the default.
abbrev pub target : Next → ℕ → Option ℕ
target Falls edge = None
target (Jumps to) edge = Some to
target (Branches test to) edge = if edge == 0 then Some to else None
target (Switches cases default) edge = Some (unwrap_or (option_map (λ (c : Case). c.target) (slice_get cases edge)) default)
target (Returns kind) edge = None
target Throws edge = None

-- what is left of references that have to be so to the other operand's
abbrev pub ref_left : Equality → Left
ref_left Same = SameRef
ref_left Different = OtherRef

-- what is left of references that have to be so to null
abbrev pub null_left : Equality → Left
null_left Same = OnlyNull
null_left Different = NoNull

-- What is left of an operand where a test holds. Operand 1 stands below operand 2 on the stack; a test that has no
-- operand 2 leaves nothing of it to be said.
abbrev pub test_left : Test → ℕ → Option Left
test_left (ToZero cmp) operand = if operand == 1 then Some (ComparedTo cmp (pos 0)) else None
test_left (Ints cmp) operand = if operand == 1 then Some (Compared cmp) else if operand == 2 then Some (Compared (exchanged cmp)) else None
test_left (Refs equality) operand = if operand == 1 || operand == 2 then Some (ref_left equality) else None
test_left (ToNull equality) operand = if operand == 1 then Some (null_left equality) else None

-- the test that holds where this one doesn't
abbrev pub negated_test : Test → Test
negated_test (ToZero cmp) = ToZero (negated cmp)
negated_test (Ints cmp) = Ints (negated cmp)
negated_test (Refs equality) = Refs (other equality)
negated_test (ToNull equality) = ToNull (other equality)

-- what is left along an edge of the operand of a switch: the ints that are the key of its case, or no key
abbrev pub case_left : List Case → ℕ → Left
case_left cases edge = unwrap_or (option_map (λ (c : Case). ComparedTo Eq c.key) (slice_get cases edge)) NoKey

-- what is left of an operand along an edge, where the edge says anything of it
abbrev pub left_of : Next → ℕ → ℕ → Option Left
left_of (Branches test to) edge operand = test_left (if edge == 0 then test else negated_test test) operand
left_of (Switches cases default) edge operand = if operand == 1 then Some (case_left cases edge) else None
left_of next edge operand = None

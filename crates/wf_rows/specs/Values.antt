-- Rows of constants, arithmetic and literals (this project's own, after SkipFlow, CGO 2025). Loads, stores and stack
-- instructions have none: they move what slots hold.
use Rattle.std.specs.Prelude.{ℕ, List, [], ◌∷◌, Result, Ok, Err}
use Rattle.wf_names.specs.declared.world.LinkError.{LinkError}
use Rattle.wf_system.specs.declared.inequality.Guard.{Guard}
use Rattle.wf_system.specs.declared.inequality.Guard.TheVariants.{NonEmpty}
use Rattle.wf_system.specs.declared.inequality.ValueOp.{ValueOp}
use Rattle.wf_system.specs.declared.inequality.ValueOp.TheVariants.{Token, IntIs, AnyInt, AnyLong, NullRef, OneType, SomeUnder}
use Rattle.wf_system.specs.declared.inequality.Inequality.{Inequality}
use Rattle.wf_rows.specs.declared.action.Computation.{Computation}
use Rattle.wf_rows.specs.declared.action.Computation.TheVariants as computation
use Rattle.wf_rows.specs.declared.action.Literal.{Literal}
use Rattle.wf_rows.specs.declared.action.LiteralField.{LiteralField}
use Rattle.wf_rows.specs.declared.action.StatedValue.{StatedValue}
use Rattle.wf_rows.specs.declared.action.StatedValue.TheVariants as stated
use Rattle.wf_rows.specs.declared.node.Node.{Node}
use Rattle.wf_rows.specs.declared.node.Node.TheVariants.{Inst, Held, Touched}
use Rattle.wf_rows.specs.declared.node.Own.{Own}
use Rattle.wf_rows.specs.Before.{Before, given, row, row_under}
use Rattle.wf_rows.specs.Each.{each_from}

-- a constant int, null, or any number of the kind that is worked out (own rule: arithmetic gives any number)
abbrev pub computed : Computation → ValueOp (Node Own)
computed (computation.Int c) = IntIs c
computed computation.Null = NullRef
computed computation.AnyInt = AnyInt
computed computation.AnyLong = AnyLong
computed computation.IntQuotient = AnyInt
computed computation.LongQuotient = AnyLong

abbrev pub computed_rows : Before → Computation → List (Inequality (Node Own))
computed_rows k c = row k (given k) (computed c) ∷ []

-- what the summary states of a value
abbrev pub stated_value : StatedValue → ValueOp (Node Own)
stated_value stated.Null = NullRef
stated_value (stated.Int c) = IntIs c
stated_value stated.AnyInt = AnyInt
stated_value stated.AnyLong = AnyLong
stated_value (stated.New t) = OneType t
stated_value (stated.Under u) = SomeUnder u

-- a new object that is stated is made
abbrev pub made_rows : Guard (Node Own) → StatedValue → List (Inequality (Node Own))
made_rows guard (stated.New t) = row_under guard Inst (OneType t) ∷ []
made_rows guard value = []

-- a literal line on the class: its value into the field, which is touched
abbrev pub literal_field_rows : Guard (Node Own) → ℕ → LiteralField → List (Inequality (Node Own))
literal_field_rows guard i line =
    row_under guard (Held line.field) (stated_value line.value)
    ∷ row_under guard (Touched line.field) Token
    ∷ made_rows guard line.value

-- a literal into a node: an object of its class is made, and has what its literal lines say
abbrev pub object_rows : Guard (Node Own) → Node Own → Literal → List (Inequality (Node Own))
object_rows guard target l =
    row_under guard target (OneType l.class)
    ∷ row_under guard Inst (OneType l.class)
    ∷ each_from (literal_field_rows guard) 0 l.fields

-- ldc of a string or a class
abbrev pub literal_rows : Before → Result Literal LinkError → List (Inequality (Node Own))
literal_rows k (Ok l) = object_rows (NonEmpty k.predicate) (given k) l
literal_rows k (Err e) = []

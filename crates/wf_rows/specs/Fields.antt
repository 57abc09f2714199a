-- Rows of instructions on fields (this project's own, after SkipFlow, CGO 2025). Where a field isn't found there is none.
use Rattle.std.specs.Prelude.{List, [], ◌∷◌, ◌++◌, Ok, Err}
use Rattle.wf_system.specs.declared.inequality.ValueOp.TheVariants.{Token, Copy}
use Rattle.wf_system.specs.declared.inequality.Inequality.{Inequality}
use Rattle.wf_rows.specs.declared.action.FieldUse.{FieldUse}
use Rattle.wf_rows.specs.declared.action.FieldUse.TheVariants.{GetStatic, PutStatic, Get, Put}
use Rattle.wf_rows.specs.declared.action.StaticField.{StaticField}
use Rattle.wf_rows.specs.declared.node.Node.{Node}
use Rattle.wf_rows.specs.declared.node.Node.TheVariants.{Initialized, Held, Touched}
use Rattle.wf_rows.specs.declared.node.Own.{Own}
use Rattle.wf_rows.specs.Before.{Before, given, value, row}

-- a static field: the class that declares it is initialized (JVMS 5.5), and the field is touched
abbrev pub static_rows : Before → StaticField → List (Inequality (Node Own))
static_rows k f = row k (Initialized f.class) Token ∷ row k (Touched f.field) Token ∷ []

-- the field is touched; what it holds is given, or what is stored flows into it
abbrev pub field_rows : Before → FieldUse → List (Inequality (Node Own))
field_rows k (GetStatic (Ok f)) = static_rows k f ++ row k (given k) (Copy (Held f.field)) ∷ []
field_rows k (PutStatic (Ok f) kind) = static_rows k f ++ row k (Held f.field) (Copy (value k kind)) ∷ []
field_rows k (Get (Ok f)) = row k (Touched f) Token ∷ row k (given k) (Copy (Held f)) ∷ []
field_rows k (Put (Ok f) kind) = row k (Touched f) Token ∷ row k (Held f) (Copy (value k kind)) ∷ []
field_rows k (GetStatic (Err e)) = []
field_rows k (PutStatic (Err e) kind) = []
field_rows k (Get (Err e)) = []
field_rows k (Put (Err e) kind) = []

-- Which nodes are there (this project's own): those that bodies share, and those of a body; and that what an instruction
-- names has nodes.
use Rattle.std.specs.Prelude.{◌≡◌, ℕ, ◌+◌, ◌<◌, ◌≤◌, Bool, true, false, List, [], ◌∷◌, length, Contains, slice_index_or, Option, Some, None, Ok}
use Rattle.wf_base.specs.declared.ids.ClassId.{ClassId}
use Rattle.wf_base.specs.declared.ids.FieldId.{FieldId}
use Rattle.wf_base.specs.declared.ids.MethodId.{MethodId}
use Rattle.wf_base.specs.declared.ids.TypeId.{TypeId}
use Rattle.wf_base.specs.declared.kind.Kind.{Kind}
use Rattle.wf_base.specs.declared.kind.Kind.TheVariants as kind
use Rattle.wf_system.specs.declared.inequality.Inequality.{Inequality}
use Rattle.wf_rows.specs.declared.action.Action.{Action}
use Rattle.wf_rows.specs.declared.action.Action.TheVariants.{Literal, Field, Makes, CallsStatic, Calls, Returns}
use Rattle.wf_rows.specs.declared.action.FieldUse.{FieldUse}
use Rattle.wf_rows.specs.declared.action.FieldUse.TheVariants.{GetStatic, PutStatic, Get, Put}
use Rattle.wf_rows.specs.declared.action.LiteralField.{LiteralField}
use Rattle.wf_rows.specs.declared.action.Making.{Making}
use Rattle.wf_rows.specs.declared.action.Making.TheVariants.{Object, ManyArray}
use Rattle.wf_rows.specs.declared.action.StaticCall.{StaticCall}
use Rattle.wf_rows.specs.declared.action.StaticField.{StaticField}
use Rattle.wf_rows.specs.declared.classes.InstanceField.{InstanceField}
use Rattle.wf_rows.specs.declared.classes.InstanceFields.{InstanceFields}
use Rattle.wf_rows.specs.declared.classes.Initialization.{Initialization}
use Rattle.wf_rows.specs.declared.classes.StaticStart.{StaticStart}
use Rattle.wf_rows.specs.declared.classes.StartValue.{StartValue}
use Rattle.wf_rows.specs.declared.classes.StartValue.TheVariants as start
use Rattle.wf_rows.specs.declared.context.ArrayType.{ArrayType}
use Rattle.wf_rows.specs.declared.node.Node.{Node}
use Rattle.wf_rows.specs.declared.node.Node.TheVariants as node
use Rattle.wf_rows.specs.declared.node.Own.{Own}
use Rattle.wf_rows.specs.declared.summaries.SummaryEffect.{SummaryEffect}
use Rattle.wf_rows.specs.declared.summaries.SummaryEffect.TheVariants.{ReturnsVoid, Makes, Writes, Copies}
use Rattle.wf_rows.specs.declared.summaries.SummaryEffect.TheVariants as effect

-- Which nodes a method has that bodies share. One that is abstract, or has a float or a double among its parameters, has
-- none.
pub record MethodNodes : Type 0 where
  pub entered : Bool
  -- how many parameters have nodes, the receiver among them
  pub parameters : ℕ
  -- it has a node of what it returns: its result is no float or double
  pub returned : Bool

abbrev pub no_nodes : MethodNodes
no_nodes = record { entered = false; parameters = 0; returned = false }

-- what of a program says which nodes its bodies share
pub record Shared : Type 0 where
  -- classes have numbers below this one
  pub classes : ℕ
  pub methods : List MethodNodes
  -- whether a field is of a kind that is followed
  pub fields : List Bool
  -- the array types whose components are references
  pub arrays : List ArrayType
  -- how many lines of the summary copy elements
  pub copies : ℕ

abbrev pub method_nodes : Shared → MethodId → MethodNodes
method_nodes s m = slice_index_or s.methods m.0 no_nodes

abbrev pub IsClass : Shared → ClassId → Type 0
IsClass s c = c.0 < s.classes

abbrev pub IsEntered : Shared → MethodId → Type 0
IsEntered s m = (method_nodes s m).entered ≡ true

abbrev pub IsReturned : Shared → MethodId → Type 0
IsReturned s m = (method_nodes s m).returned ≡ true

abbrev pub IsField : Shared → FieldId → Type 0
IsField s f = slice_index_or s.fields f.0 false ≡ true

-- an array type whose components are references
pub record IsArray (s : Shared) (t : TypeId) : Type 0 where
  pub type_of : ArrayType
  pub there : Contains s.arrays type_of
  pub is : type_of.array ≡ t

-- the node is there, where a body has these nodes of its own
abbrev pub IsThere : Shared → List Own → Node Own → Type 0
IsThere s owns node.Inst = Unit {0}
IsThere s owns node.Start = Unit {0}
IsThere s owns node.Nothing = Unit {0}
IsThere s owns (node.Initialized c) = IsClass s c
IsThere s owns (node.Entered m) = IsEntered s m
IsThere s owns (node.Parameter m i) = i < (method_nodes s m).parameters
IsThere s owns (node.Returned m) = IsReturned s m
IsThere s owns (node.Held f) = IsField s f
IsThere s owns (node.Touched f) = IsField s f
IsThere s owns (node.Element t) = IsArray s t
IsThere s owns (node.Copied line) = line < s.copies
IsThere s owns (node.In o) = Contains owns o

-- the targets of all rows are there
abbrev pub TargetsThere : Shared → List Own → List (Inequality (Node Own)) → Type 0
TargetsThere s owns [] = Unit {0}
TargetsThere s owns (q ∷ qs) = IsThere s owns q.target × TargetsThere s owns qs

-- ---- what an instruction names has nodes

-- a method that is called with so many arguments, the receiver among them
pub record IsCallable (s : Shared) (m : MethodId) (arguments : ℕ) : Type 0 where
  pub entered : IsEntered s m
  pub parameters : arguments ≤ (method_nodes s m).parameters
  pub returned : IsReturned s m

pub record IsStaticField (s : Shared) (f : StaticField) : Type 0 where
  pub class : IsClass s f.class
  pub field : IsField s f.field

pub record IsStaticCall (s : Shared) (c : StaticCall) : Type 0 where
  pub class : IsClass s c.class
  pub method : IsCallable s c.method (length c.arguments)

abbrev pub FieldNamed : Shared → FieldUse → Type 0
FieldNamed s (GetStatic (Ok f)) = IsStaticField s f
FieldNamed s (PutStatic (Ok f) kind) = IsStaticField s f
FieldNamed s (Get (Ok f)) = IsField s f
FieldNamed s (Put (Ok f) kind) = IsField s f
FieldNamed s other = Unit {0}

-- each type but the last has components that are references
abbrev pub AreNested : Shared → TypeId → List TypeId → Type 0
AreNested s outer [] = Unit {0}
AreNested s outer (t ∷ ts) = IsArray s outer × AreNested s t ts

abbrev pub MakingNamed : Shared → Making → Type 0
MakingNamed s (Object (Ok o)) = IsClass s o.class
MakingNamed s (ManyArray (Ok m)) = AreNested s m.array m.components
MakingNamed s other = Unit {0}

-- the fields of literals
abbrev pub AreFields : Shared → List LiteralField → Type 0
AreFields s lines = (line : LiteralField) → Contains lines line → IsField s line.field

-- what the instruction of a method names has nodes
abbrev pub IsNamed : Shared → MethodId → Action → Type 0
IsNamed s m (Literal (Ok l)) = AreFields s l.fields
IsNamed s m (Field f) = FieldNamed s f
IsNamed s m (Makes making) = MakingNamed s making
IsNamed s m (CallsStatic (Ok c)) = IsStaticCall s c
IsNamed s m (Calls (Ok c)) = (callee : MethodId) → Contains c.candidates callee → IsCallable s callee (1 + length c.arguments)
IsNamed s m (Returns kind) = IsReturned s m
IsNamed s m other = Unit {0}

-- ---- what a class or a summary names has nodes

-- an initializer
abbrev pub InitializerNamed : Shared → Option MethodId → Type 0
InitializerNamed s (Some m) = IsEntered s m
InitializerNamed s None = Unit {0}

-- a field of a kind that is followed
abbrev pub KindNamed : Shared → FieldId → Kind → Type 0
KindNamed s f kind.Int = IsField s f
KindNamed s f kind.Long = IsField s f
KindNamed s f kind.Ref = IsField s f
KindNamed s f kind.Float = Unit {0}
KindNamed s f kind.Double = Unit {0}

-- a field with this first value
abbrev pub IsStarted : Shared → FieldId → StartValue → Type 0
IsStarted s f (start.Zero k) = KindNamed s f k
IsStarted s f (start.Int c) = IsField s f
IsStarted s f start.Long = IsField s f
IsStarted s f (start.Object l) = IsField s f × AreFields s l.fields

-- a field that holds a first value
abbrev pub StartNamed : Shared → StaticStart → Type 0
StartNamed s f = IsStarted s f.field f.value

-- what a requested class runs, requests and assigns
pub record InitializationNamed (s : Shared) (c : Initialization) : Type 0 where
  pub initializer : InitializerNamed s c.initializer
  pub before : (d : ClassId) → Contains c.before d → IsClass s d
  pub fields : (f : StaticStart) → Contains c.fields f → StartNamed s f

-- the instance fields of a class that are of kinds that are followed
abbrev pub InstancesNamed : Shared → InstanceFields → Type 0
InstancesNamed s c = (f : InstanceField) → Contains c.fields f → KindNamed s f.field f.kind

-- what a summary says that a method does
abbrev pub EffectNamed : Shared → MethodId → SummaryEffect → Type 0
EffectNamed s m ReturnsVoid = IsReturned s m
EffectNamed s m (effect.Returns v) = IsReturned s m
EffectNamed s m (Makes t) = Unit {0}
EffectNamed s m (Writes f v) = IsField s f
EffectNamed s m (Copies line source into) = line < s.copies

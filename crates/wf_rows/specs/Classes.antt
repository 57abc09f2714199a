-- Rows of classes and of array types: what an initialization runs and assigns (JVMS 5.5), and what fields and elements hold
-- that nothing was written to (JVMS 2.3, 2.4).
use Rattle.std.specs.Prelude.{ℕ, pos, List, [], ◌∷◌, ◌++◌, Option, Some, None}
use Rattle.wf_base.specs.declared.ids.ClassId.{ClassId}
use Rattle.wf_base.specs.declared.ids.MethodId.{MethodId}
use Rattle.wf_base.specs.declared.ids.TypeId.{TypeId}
use Rattle.wf_base.specs.declared.kind.Kind.{Kind}
use Rattle.wf_base.specs.declared.kind.Kind.TheVariants as kind
use Rattle.wf_system.specs.declared.inequality.Guard.{Guard}
use Rattle.wf_system.specs.declared.inequality.Guard.TheVariants.{NonEmpty, HasType, HasUnder}
use Rattle.wf_system.specs.declared.inequality.ValueOp.{ValueOp}
use Rattle.wf_system.specs.declared.inequality.ValueOp.TheVariants.{Token, IntIs, AnyLong, NullRef}
use Rattle.wf_system.specs.declared.inequality.Inequality.{Inequality}
use Rattle.wf_rows.specs.declared.classes.InstanceField.{InstanceField}
use Rattle.wf_rows.specs.declared.classes.InstanceFields.{InstanceFields}
use Rattle.wf_rows.specs.declared.classes.Initialization.{Initialization}
use Rattle.wf_rows.specs.declared.classes.StaticStart.{StaticStart}
use Rattle.wf_rows.specs.declared.classes.StartValue.{StartValue}
use Rattle.wf_rows.specs.declared.classes.StartValue.TheVariants as start
use Rattle.wf_rows.specs.declared.context.ArrayType.{ArrayType}
use Rattle.wf_rows.specs.declared.node.Node.{Node}
use Rattle.wf_rows.specs.declared.node.Node.TheVariants.{Initialized, Entered, Held, Element}
use Rattle.wf_rows.specs.declared.node.Own.{Own}
use Rattle.wf_rows.specs.declared.throwable.Throwable.{Throwable}
use Rattle.wf_rows.specs.declared.throwable.Throwable.TheVariants.{ExceptionInInitializer, NoClassDefFound}
use Rattle.wf_rows.specs.Before.{row_under}
use Rattle.wf_rows.specs.Each.{each_from}
use Rattle.wf_rows.specs.Errors.{error_rows}
use Rattle.wf_rows.specs.Values.{object_rows}

-- the default value of a kind (JVMS 2.3, 2.4); floats aren't followed
abbrev pub zero_value : Kind → Option (ValueOp (Node Own))
zero_value kind.Int = Some (IntIs (pos 0))
zero_value kind.Long = Some AnyLong
zero_value kind.Ref = Some NullRef
zero_value kind.Float = None
zero_value kind.Double = None

-- the default value into a node, where it has one
abbrev pub zero_rows : Guard (Node Own) → Node Own → Option (ValueOp (Node Own)) → List (Inequality (Node Own))
zero_rows guard target (Some zero) = row_under guard target zero ∷ []
zero_rows guard target None = []

-- what a static field holds first: the default value, or its constant (JVMS 4.7.2)
abbrev pub started_rows : Guard (Node Own) → Node Own → StartValue → List (Inequality (Node Own))
started_rows guard held (start.Zero kind) = zero_rows guard held (zero_value kind)
started_rows guard held (start.Int c) = row_under guard held (IntIs c) ∷ []
started_rows guard held start.Long = row_under guard held AnyLong ∷ []
started_rows guard held (start.Object l) = object_rows guard held l

abbrev pub static_start_rows : Guard (Node Own) → ℕ → StaticStart → List (Inequality (Node Own))
static_start_rows guard i s = started_rows guard (Held s.field) s.value

-- another class is initialized
abbrev pub request_rows : Guard (Node Own) → ℕ → ClassId → List (Inequality (Node Own))
request_rows guard i class = row_under guard (Initialized class) Token ∷ []

-- the errors of an initializer that runs (JVMS 5.5): one out of it is replaced, and later requests fail
abbrev pub initializer_errors : List Throwable
initializer_errors = ExceptionInInitializer ∷ NoClassDefFound ∷ []

-- the initializer is entered, and may fail
abbrev pub initializer_rows : Guard (Node Own) → (Throwable → Option TypeId) → Option MethodId → List (Inequality (Node Own))
initializer_rows guard thrown (Some m) = row_under guard (Entered m) Token ∷ error_rows (NonEmpty (Entered m)) thrown initializer_errors
initializer_rows guard thrown None = []

-- where the initialization of a class is requested: what it runs, what it requests before, and what its static fields hold
abbrev pub requested_rows : Guard (Node Own) → (Throwable → Option TypeId) → Initialization → List (Inequality (Node Own))
requested_rows guard thrown c =
    initializer_rows guard thrown c.initializer
    ++ each_from (request_rows guard) 0 c.before
    ++ each_from (static_start_rows guard) 0 c.fields

abbrev pub initialization_rows : (Throwable → Option TypeId) → Initialization → List (Inequality (Node Own))
initialization_rows thrown c = requested_rows (NonEmpty (Initialized c.class)) thrown c

-- an instance field of an object that may be there: the default value
abbrev pub instance_rows : Guard (Node Own) → ℕ → InstanceField → List (Inequality (Node Own))
instance_rows guard i f = zero_rows guard (Held f.field) (zero_value f.kind)

-- the instance fields that a class declares, where an object under it is made
abbrev pub instances_rows : InstanceFields → List (Inequality (Node Own))
instances_rows c = each_from (instance_rows (HasUnder c.class)) 0 c.fields

-- the elements of an array type of references, where an array of the type is made
abbrev pub element_rows : ℕ → ArrayType → List (Inequality (Node Own))
element_rows i t = row_under (HasType t.array) (Element t.array) NullRef ∷ []

abbrev pub elements_rows : List ArrayType → List (Inequality (Node Own))
elements_rows arrays = each_from element_rows 0 arrays

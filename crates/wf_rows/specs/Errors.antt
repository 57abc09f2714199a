-- The errors that the machine itself throws (JVMS 6.5, by instruction), and their rows.
use Rattle.std.specs.Prelude.{ℕ, List, [], ◌∷◌, ◌++◌, codes, Option, Some, None, Result, Ok, Err}
use Rattle.wf_base.specs.declared.ids.TypeId.{TypeId}
use Rattle.wf_names.specs.declared.world.LinkError.{LinkError}
use Rattle.wf_names.specs.declared.world.LinkError.TheVariants as link
use Rattle.wf_system.specs.declared.inequality.Guard.{Guard}
use Rattle.wf_system.specs.declared.inequality.Guard.TheVariants.{NonEmpty}
use Rattle.wf_system.specs.declared.inequality.ValueOp.TheVariants.{OneType}
use Rattle.wf_system.specs.declared.inequality.Inequality.{Inequality}
use Rattle.wf_rows.specs.declared.action.Action.{Action}
use Rattle.wf_rows.specs.declared.action.Action.TheVariants.{Moves, Computes, Literal, Field, Array, Makes, Tests, CallsStatic, Calls, Returns, Throws, Monitors}
use Rattle.wf_rows.specs.declared.action.ArrayUse.{ArrayUse}
use Rattle.wf_rows.specs.declared.action.ArrayUse.TheVariants as array
use Rattle.wf_rows.specs.declared.action.Computation.{Computation}
use Rattle.wf_rows.specs.declared.action.Computation.TheVariants as computation
use Rattle.wf_rows.specs.declared.action.FieldUse.{FieldUse}
use Rattle.wf_rows.specs.declared.action.FieldUse.TheVariants as field
use Rattle.wf_rows.specs.declared.action.Making.{Making}
use Rattle.wf_rows.specs.declared.action.Making.TheVariants as making
use Rattle.wf_rows.specs.declared.action.TypeTest.{TypeTest}
use Rattle.wf_rows.specs.declared.action.TypeTest.TheVariants as test
use Rattle.wf_rows.specs.declared.node.Node.{Node}
use Rattle.wf_rows.specs.declared.node.Node.TheVariants.{Inst}
use Rattle.wf_rows.specs.declared.node.Own.{Own}
use Rattle.wf_rows.specs.declared.throwable.Throwable.{Throwable}
use Rattle.wf_rows.specs.declared.throwable.Throwable.TheVariants as throwable
use Rattle.wf_rows.specs.Before.{Before, row_under}
use Rattle.wf_rows.specs.Each.{each_from}

-- the names of their classes
abbrev pub class_name : Throwable → List ℕ
class_name throwable.NullPointer = codes "java/lang/NullPointerException"
class_name throwable.ArrayIndexOutOfBounds = codes "java/lang/ArrayIndexOutOfBoundsException"
class_name throwable.ArrayStore = codes "java/lang/ArrayStoreException"
class_name throwable.NegativeArraySize = codes "java/lang/NegativeArraySizeException"
class_name throwable.ClassCast = codes "java/lang/ClassCastException"
class_name throwable.Arithmetic = codes "java/lang/ArithmeticException"
class_name throwable.AbstractMethod = codes "java/lang/AbstractMethodError"
class_name throwable.IncompatibleClassChange = codes "java/lang/IncompatibleClassChangeError"
class_name throwable.NoClassDefFound = codes "java/lang/NoClassDefFoundError"
class_name throwable.NoSuchField = codes "java/lang/NoSuchFieldError"
class_name throwable.NoSuchMethod = codes "java/lang/NoSuchMethodError"
class_name throwable.Instantiation = codes "java/lang/InstantiationError"
class_name throwable.ExceptionInInitializer = codes "java/lang/ExceptionInInitializerError"

-- what is thrown where a place fails to link (JVMS 5.4.3)
abbrev pub throwable_of : LinkError → Throwable
throwable_of link.NoClassDefFound = throwable.NoClassDefFound
throwable_of link.NoSuchField = throwable.NoSuchField
throwable_of link.NoSuchMethod = throwable.NoSuchMethod
throwable_of link.IncompatibleClassChange = throwable.IncompatibleClassChange
throwable_of link.Instantiation = throwable.Instantiation

-- ---- what each instruction throws, however its operand resolves

abbrev pub computation_errors : Computation → List Throwable
computation_errors computation.IntQuotient = throwable.Arithmetic ∷ []
computation_errors computation.LongQuotient = throwable.Arithmetic ∷ []
computation_errors (computation.Int c) = []
computation_errors computation.Null = []
computation_errors computation.AnyInt = []
computation_errors computation.AnyLong = []

abbrev pub field_errors : FieldUse → List Throwable
field_errors (field.GetStatic f) = []
field_errors (field.PutStatic f kind) = []
field_errors (field.Get f) = throwable.NullPointer ∷ []
field_errors (field.Put f kind) = throwable.NullPointer ∷ []

abbrev pub array_errors : ArrayUse → List Throwable
array_errors array.Length = throwable.NullPointer ∷ []
array_errors array.LoadInt = throwable.NullPointer ∷ throwable.ArrayIndexOutOfBounds ∷ []
array_errors array.LoadLong = throwable.NullPointer ∷ throwable.ArrayIndexOutOfBounds ∷ []
array_errors array.LoadRef = throwable.NullPointer ∷ throwable.ArrayIndexOutOfBounds ∷ []
array_errors array.StoreNumber = throwable.NullPointer ∷ throwable.ArrayIndexOutOfBounds ∷ []
array_errors array.StoreRef = throwable.NullPointer ∷ throwable.ArrayIndexOutOfBounds ∷ throwable.ArrayStore ∷ []

abbrev pub making_errors : Making → List Throwable
making_errors (making.Object o) = []
making_errors (making.Array t) = throwable.NegativeArraySize ∷ []
making_errors (making.ManyArray m) = throwable.NegativeArraySize ∷ []

abbrev pub test_errors : TypeTest → List Throwable
test_errors (test.Cast u) = throwable.ClassCast ∷ []
test_errors (test.InstanceOf u) = []

abbrev pub own_errors : Action → List Throwable
own_errors Moves = []
own_errors (Computes c) = computation_errors c
own_errors (Literal l) = []
own_errors (Field f) = field_errors f
own_errors (Array a) = array_errors a
own_errors (Makes m) = making_errors m
own_errors (Tests t) = test_errors t
own_errors (CallsStatic c) = []
own_errors (Calls c) = throwable.NullPointer ∷ throwable.IncompatibleClassChange ∷ throwable.AbstractMethod ∷ []
own_errors (Returns kind) = []
own_errors Throws = throwable.NullPointer ∷ []
own_errors Monitors = throwable.NullPointer ∷ []

-- ---- how what an instruction names fails to resolve, where it does

abbrev pub error_of : {A : Type 0} → Result A LinkError → Option LinkError
error_of (Ok a) = None
error_of (Err e) = Some e

abbrev pub field_error : FieldUse → Option LinkError
field_error (field.GetStatic f) = error_of f
field_error (field.PutStatic f kind) = error_of f
field_error (field.Get f) = error_of f
field_error (field.Put f kind) = error_of f

abbrev pub making_error : Making → Option LinkError
making_error (making.Object o) = error_of o
making_error (making.Array t) = error_of t
making_error (making.ManyArray m) = error_of m

abbrev pub test_error : TypeTest → Option LinkError
test_error (test.Cast u) = error_of u
test_error (test.InstanceOf u) = error_of u

abbrev pub link_error : Action → Option LinkError
link_error Moves = None
link_error (Computes c) = None
link_error (Literal l) = error_of l
link_error (Field f) = field_error f
link_error (Array a) = None
link_error (Makes m) = making_error m
link_error (Tests t) = test_error t
link_error (CallsStatic c) = error_of c
link_error (Calls c) = error_of c
link_error (Returns kind) = None
link_error Throws = None
link_error Monitors = None

-- ---- rows

-- an error is made, where its class is a loadable one that isn't abstract
abbrev pub thrown_rows : Guard (Node Own) → Option TypeId → List (Inequality (Node Own))
thrown_rows guard (Some t) = row_under guard Inst (OneType t) ∷ []
thrown_rows guard None = []

abbrev pub error_at : Guard (Node Own) → (Throwable → Option TypeId) → ℕ → Throwable → List (Inequality (Node Own))
error_at guard thrown i e = thrown_rows guard (thrown e)

-- the errors of a list
abbrev pub error_rows : Guard (Node Own) → (Throwable → Option TypeId) → List Throwable → List (Inequality (Node Own))
error_rows guard thrown es = each_from (error_at guard thrown) 0 es

-- the named error, where what an instruction names fails to resolve
abbrev pub failing_rows : Guard (Node Own) → (Throwable → Option TypeId) → Option LinkError → List (Inequality (Node Own))
failing_rows guard thrown (Some e) = thrown_rows guard (thrown (throwable_of e))
failing_rows guard thrown None = []

-- the errors of the machine at a place
abbrev pub machine_rows : Before → (Throwable → Option TypeId) → Action → List (Inequality (Node Own))
machine_rows k thrown a = error_rows (NonEmpty k.predicate) thrown (own_errors a) ++ failing_rows (NonEmpty k.predicate) thrown (link_error a)

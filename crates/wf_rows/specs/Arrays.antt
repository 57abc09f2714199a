-- Rows of instructions on arrays, of those that make objects, and of tests of types (this project's own, after SkipFlow,
-- CGO 2025).
use Rattle.std.specs.Prelude.{ℕ, List, [], ◌∷◌, ◌++◌, Ok, Err}
use Rattle.wf_base.specs.declared.ids.TypeId.{TypeId}
use Rattle.wf_system.specs.declared.inequality.Guard.{Guard}
use Rattle.wf_system.specs.declared.inequality.Guard.TheVariants.{NonEmpty}
use Rattle.wf_system.specs.declared.inequality.ValueOp.TheVariants.{Token, AnyInt, AnyLong, OneType, OnlyNull, Under, Tested, ElementsOf, IfHolds, IfNull}
use Rattle.wf_system.specs.declared.inequality.Inequality.{Inequality}
use Rattle.wf_rows.specs.declared.action.ArrayUse.{ArrayUse}
use Rattle.wf_rows.specs.declared.action.ArrayUse.TheVariants as use_of
use Rattle.wf_rows.specs.declared.action.Making.{Making}
use Rattle.wf_rows.specs.declared.action.Making.TheVariants.{Object, Array, ManyArray}
use Rattle.wf_rows.specs.declared.action.TypeTest.{TypeTest}
use Rattle.wf_rows.specs.declared.action.TypeTest.TheVariants.{Cast, InstanceOf}
use Rattle.wf_rows.specs.declared.context.ArrayType.{ArrayType}
use Rattle.wf_rows.specs.declared.node.Node.{Node}
use Rattle.wf_rows.specs.declared.node.Node.TheVariants.{Inst, Initialized, Element}
use Rattle.wf_rows.specs.declared.node.Own.{Own}
use Rattle.wf_rows.specs.Before.{Before, given, operand, row, row_under}
use Rattle.wf_rows.specs.Each.{each_from}

-- a value into the elements of an array type: what of it is under the component type, where the array may have the type
abbrev pub stored_rows : Guard (Node Own) → Node Own → Node Own → ℕ → ArrayType → List (Inequality (Node Own))
stored_rows guard array stored i t = row_under guard (Element t.array) (IfHolds array t.array stored t.component) ∷ []

-- numbers in arrays aren't followed (own rule)
abbrev pub array_rows : Before → List ArrayType → ArrayUse → List (Inequality (Node Own))
array_rows k arrays use_of.Length = row k (given k) AnyInt ∷ []
array_rows k arrays use_of.LoadInt = row k (given k) AnyInt ∷ []
array_rows k arrays use_of.LoadLong = row k (given k) AnyLong ∷ []
array_rows k arrays use_of.LoadRef = row k (given k) (ElementsOf (operand k 1)) ∷ []
array_rows k arrays use_of.StoreNumber = []
array_rows k arrays use_of.StoreRef = each_from (stored_rows (NonEmpty k.predicate) (operand k 2) (operand k 0)) 0 arrays

-- multianewarray: each further type is made, and is an element of the one that it is the component of
abbrev pub component_rows : Before → TypeId → List TypeId → List (Inequality (Node Own))
component_rows k outer [] = []
component_rows k outer (t ∷ ts) = row k Inst (OneType t) ∷ row k (Element outer) (OneType t) ∷ component_rows k t ts

-- an object of a type is given and made
abbrev pub one_rows : Before → TypeId → List (Inequality (Node Own))
one_rows k t = row k (given k) (OneType t) ∷ row k Inst (OneType t) ∷ []

-- new requests the initialization of its class (JVMS 5.5)
abbrev pub making_rows : Before → Making → List (Inequality (Node Own))
making_rows k (Object (Ok o)) = row k (Initialized o.class) Token ∷ one_rows k o.made
making_rows k (Array (Ok t)) = one_rows k t
making_rows k (ManyArray (Ok m)) = one_rows k m.array ++ component_rows k m.array m.components
making_rows k (Object (Err e)) = []
making_rows k (Array (Err e)) = []
making_rows k (ManyArray (Err e)) = []

-- Where the class isn't found null alone passes (JVMS 6.5, checkcast and instanceof). instanceof gives an int, and says
-- nothing of its operand (own rule).
abbrev pub test_rows : Before → TypeTest → List (Inequality (Node Own))
test_rows k (Cast (Ok u)) = row k (given k) (Under (operand k 0) u) ∷ []
test_rows k (Cast (Err e)) = row k (given k) (OnlyNull (operand k 0)) ∷ []
test_rows k (InstanceOf (Ok u)) = row k (given k) (Tested (operand k 0) u) ∷ []
test_rows k (InstanceOf (Err e)) = row k (given k) (IfNull (operand k 0)) ∷ []

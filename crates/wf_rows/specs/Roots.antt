-- Rows of roots, from which executions start (this project's own). They hold always, so they are the seeds of a solution and
-- no inequalities of a system.
use Rattle.std.specs.Prelude.{ℕ, List, [], ◌∷◌, Option, Some, None}
use Rattle.wf_base.specs.declared.ids.ClassId.{ClassId}
use Rattle.wf_base.specs.declared.ids.MethodId.{MethodId}
use Rattle.wf_base.specs.declared.ids.TypeId.{TypeId}
use Rattle.wf_system.specs.declared.inequality.Guard.TheVariants.{Always}
use Rattle.wf_system.specs.declared.inequality.ValueOp.{ValueOp}
use Rattle.wf_system.specs.declared.inequality.ValueOp.TheVariants.{Token, AnyInt, AnyLong, NullRef, OneType}
use Rattle.wf_system.specs.declared.inequality.Inequality.{Inequality}
use Rattle.wf_rows.specs.declared.node.Node.{Node}
use Rattle.wf_rows.specs.declared.node.Node.TheVariants.{Inst, Initialized, Entered, Parameter}
use Rattle.wf_rows.specs.declared.node.Own.{Own}
use Rattle.wf_rows.specs.declared.roots.RootParameter.{RootParameter}
use Rattle.wf_rows.specs.declared.roots.RootParameter.TheVariants.{Int, Long, Ref}
use Rattle.wf_rows.specs.declared.roots.RootUse.{RootUse}
use Rattle.wf_rows.specs.declared.roots.RootUse.TheVariants.{Calls, Has, Makes}
use Rattle.wf_rows.specs.Before.{row_under}
use Rattle.wf_rows.specs.Each.{each_from}

abbrev pub seed : Node Own → ValueOp (Node Own) → Inequality (Node Own)
seed target value = row_under Always target value

-- an object of a type flows into a node
abbrev pub type_rows : Node Own → ℕ → TypeId → List (Inequality (Node Own))
type_rows target i t = seed target (OneType t) ∷ []

-- a parameter of a method that a root calls: any number; null, or an object of one of these types
abbrev pub root_parameter_rows : MethodId → ℕ → RootParameter → List (Inequality (Node Own))
root_parameter_rows m i Int = seed (Parameter m i) AnyInt ∷ []
root_parameter_rows m i Long = seed (Parameter m i) AnyLong ∷ []
root_parameter_rows m i (Ref types) = seed (Parameter m i) NullRef ∷ each_from (type_rows (Parameter m i)) 0 types

-- the class of an object is initialized (JVMS 5.5); an array has none
abbrev pub root_class_rows : Option ClassId → List (Inequality (Node Own))
root_class_rows (Some c) = seed (Initialized c) Token ∷ []
root_class_rows None = []

-- A root calls a static method of a class, has an object of a type, or makes an object by a constructor.
abbrev pub root_rows : RootUse → List (Inequality (Node Own))
root_rows (Calls c m parameters) = seed (Entered m) Token ∷ seed (Initialized c) Token ∷ each_from (root_parameter_rows m) 0 parameters
root_rows (Has t class) = seed Inst (OneType t) ∷ root_class_rows class
root_rows (Makes c t m) = seed Inst (OneType t) ∷ seed (Initialized c) Token ∷ seed (Entered m) Token ∷ seed (Parameter m 0) (OneType t) ∷ []

-- The nodes of a body, as nodes of the system of a program (this project's own).
use Rattle.wf_base.specs.declared.ids.MethodId.{MethodId}
use Rattle.wf_rows.specs.declared.node.Node.{Node}
use Rattle.wf_rows.specs.declared.node.Node.TheVariants.{Inst, Start, Nothing, Initialized, Entered, Parameter, Returned, Held, Touched, Element, Copied, In}
use Rattle.wf_rows.specs.declared.node.Own.{Own}
use Rattle.wf_rows.specs.declared.node.OwnOf.{OwnOf}

abbrev pub own_of : MethodId → Own → OwnOf
own_of method own = record { method = method; own = own }

-- a node as it is called in the body of a method, by its name in the program
abbrev pub in_method : MethodId → Node Own → Node OwnOf
in_method method Inst = Inst
in_method method Start = Start
in_method method Nothing = Nothing
in_method method (Initialized c) = Initialized c
in_method method (Entered m) = Entered m
in_method method (Parameter m i) = Parameter m i
in_method method (Returned m) = Returned m
in_method method (Held f) = Held f
in_method method (Touched f) = Touched f
in_method method (Element t) = Element t
in_method method (Copied line) = Copied line
in_method method (In own) = In (own_of method own)

-- The nodes of a program's system in the order of their numbers, and the place of a node among them.
use Rattle.std.specs.Prelude.{ℕ, suc, Bool, true, false, ◌&&◌, List, [], ◌∷◌, ◌++◌, Option, Some, None, nat_eq, if◌then◌else◌}
use Rattle.std.specs.List.{list_any}
use Rattle.std.specs.Str.{bytes_eq}
use Rattle.wf_data.specs.declared.class_info.ClassInfo.{ClassInfo}
use Rattle.wf_data.specs.declared.class_info.CodeInfo.{CodeInfo}
use Rattle.wf_data.specs.declared.class_info.MethodInfo.{MethodInfo}
use Rattle.wf_names.specs.declared.member.MemberName.{MemberName}
use Rattle.wf_data.specs.Flags.{is_static}
use Rattle.wf_names.specs.Members.{named_by, same_member}
use Rattle.wf_first.specs.declared.code.Operation.TheVariants.{IntConstant, InvokeStatic, IntReturn, Return}
use Rattle.wf_first.specs.declared.code.Placed.{Placed}
use Rattle.wf_first.specs.Code.{operations}
use Rattle.wf_sys.specs.Names.{method_name}
use Rattle.wf_sys.specs.Nodes.{Node, Inst, Start, Nothing, Initialized, Entered, Parameter, Returned, Result, Touched}
use Rattle.wf_first.specs.declared.nodes.NodeKey.{NodeKey}
use Rattle.wf_first.specs.declared.nodes.NodeKey.TheVariants as keys

-- the node that a key with borrowed names stands for
abbrev pub node_of : NodeKey → Node
node_of keys.Inst = Inst
node_of keys.Start = Start
node_of keys.Nothing = Nothing
node_of (keys.Initialized class) = Initialized class.now
node_of (keys.Entered m) = Entered (named_by m)
node_of (keys.Parameter m i) = Parameter (named_by m) i
node_of (keys.Returned m) = Returned (named_by m)
node_of (keys.Result m pc) = Result (named_by m) pc

-- whether two nodes are one
abbrev pub same_node : Node → Node → Bool
same_node Inst Inst = true
same_node Start Start = true
same_node Nothing Nothing = true
same_node (Initialized a) (Initialized b) = bytes_eq a b
same_node (Entered m) (Entered n) = same_member m n
same_node (Parameter m i) (Parameter n j) = same_member m n && nat_eq i j
same_node (Returned m) (Returned n) = same_member m n
same_node (Result m i) (Result n j) = same_member m n && nat_eq i j
same_node (Touched m) (Touched n) = same_member m n
same_node a b = false

abbrev pub has_node : List Node → Node → Bool
has_node nodes n = list_any (same_node n) nodes

-- the number of a node: its first place, or past the end
abbrev pub place_of : List Node → Node → ℕ
place_of [] n = 0
place_of (m ∷ nodes) n = if same_node n m then 0 else suc (place_of nodes n)

-- the nodes with one more, if it isn't there
abbrev pub with_node : List Node → Node → List Node
with_node nodes n = if has_node nodes n then nodes else nodes ++ n ∷ []

-- the nodes with more, in their order
abbrev pub with_nodes : List Node → List Node → List Node
with_nodes nodes [] = nodes
with_nodes nodes (n ∷ more) = with_nodes (with_node nodes n) more

-- ---- the nodes of a program

-- the receiver of a method that isn't static
abbrev pub receiver_nodes : Bool → MemberName → List Node
receiver_nodes true name = []
receiver_nodes false name = Parameter name 0 ∷ []

-- nodes that a method shares with others
abbrev pub method_nodes : ClassInfo → List MethodInfo → List Node
method_nodes class [] = []
method_nodes class (m ∷ methods) = Entered (method_name class m) ∷ Returned (method_name class m) ∷ receiver_nodes (is_static m.flags) (method_name class m) ++ method_nodes class methods

abbrev pub shared_nodes : List ClassInfo → List Node
shared_nodes [] = []
shared_nodes (class ∷ classes) = Initialized class.name ∷ method_nodes class class.methods ++ shared_nodes classes

-- the results of the instructions that are reached: no path goes on behind a return
abbrev pub result_nodes : MemberName → List Placed → List Node
result_nodes name [] = []
result_nodes name (o ∷ os) = elim o.operation [
  | IntConstant c ↦ Result name o.pc ∷ result_nodes name os
  | InvokeStatic place ↦ Result name o.pc ∷ result_nodes name os
  | IntReturn ↦ []
  | Return ↦ []
]

abbrev pub found_nodes : MemberName → Option (List Placed) → List Node
found_nodes name None = []
found_nodes name (Some os) = result_nodes name os

-- a method's own nodes
abbrev pub code_nodes : MemberName → Option CodeInfo → List Node
code_nodes name None = []
code_nodes name (Some code) = found_nodes name (operations code.code)

abbrev pub own_method_nodes : ClassInfo → List MethodInfo → List Node
own_method_nodes class [] = []
own_method_nodes class (m ∷ methods) = code_nodes (method_name class m) m.code ++ own_method_nodes class methods

abbrev pub own_nodes : List ClassInfo → List Node
own_nodes [] = []
own_nodes (class ∷ classes) = own_method_nodes class class.methods ++ own_nodes classes

-- all of them: those that are shared first, and then each method's own
abbrev pub nodes_of : List ClassInfo → List Node
nodes_of classes = Inst ∷ Start ∷ Nothing ∷ shared_nodes classes ++ own_nodes classes

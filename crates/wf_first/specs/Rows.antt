-- The rows of a program as a list, in the order in which they are made. The list is made for nodes of any
-- kind, by a function that gives the node of a name: for the names themselves, and for their numbers.
use Rattle.std.specs.Prelude.{◌≡◌, ℕ, ℤ, List, [], ◌∷◌, ◌++◌, Option, Some, None, codes, Contains, if◌then◌else◌}
use Rattle.std.specs.Str.{bytes_eq}
use Rattle.wf_data.specs.declared.class_info.ClassInfo.{ClassInfo}
use Rattle.wf_data.specs.declared.class_info.CodeInfo.{CodeInfo}
use Rattle.wf_data.specs.declared.class_info.MethodInfo.{MethodInfo}
use Rattle.wf_data.specs.declared.class_info.PoolEntry.{PoolEntry}
use Rattle.wf_names.specs.declared.member.MemberName.{MemberName}
use Rattle.wf_data.specs.Flags.{is_interface}
use Rattle.wf_data.specs.Pool.{method_at}
use Rattle.wf_first.specs.declared.code.Operation.{Operation}
use Rattle.wf_first.specs.declared.code.Operation.TheVariants.{IntConstant, InvokeStatic, IntReturn, Return}
use Rattle.wf_first.specs.declared.code.Placed.{Placed}
use Rattle.wf_first.specs.Code.{operations}
use Rattle.wf_sys.specs.declared.inequality.Guard.{Guard}
use Rattle.wf_sys.specs.declared.inequality.Guard.TheVariants.{Always, NonEmpty}
use Rattle.wf_sys.specs.declared.inequality.ValueOp.{ValueOp}
use Rattle.wf_sys.specs.declared.inequality.ValueOp.TheVariants.{Token, IntIs, Copy}
use Rattle.wf_sys.specs.declared.inequality.Inequality.{Inequality}
use Rattle.wf_sys.specs.Names.{method_name}
use Rattle.wf_sys.specs.Nodes.{Node, Initialized, Entered, Returned, Result}
use Rattle.wf_sys.specs.Program.{top_of}

-- what is known before a place: its predicate, and the flows on its stack, the last pushed at the end
pub record At (N : Type 0) : Type 0 where
  pub predicate : N
  pub stack : List N

-- rows with a guard on a node
abbrev pub token_row : {N : Type 0} → N → N → Inequality N
token_row guard target = record { target = target; guard = NonEmpty guard; value = Token }

abbrev pub constant_row : {N : Type 0} → N → ℤ → N → Inequality N
constant_row guard constant target = record { target = target; guard = NonEmpty guard; value = IntIs constant }

abbrev pub copy_row : {N : Type 0} → N → N → N → Inequality N
copy_row guard source target = record { target = target; guard = NonEmpty guard; value = Copy source }

module _ {N : Type 0} (ν : Node → N) where
  -- ---- one instruction

  abbrev pub call_rows : N → MemberName → ℕ → Option MemberName → List (Inequality N)
  call_rows predicate name pc None = []
  call_rows predicate name pc (Some callee) =
      token_row predicate (ν (Initialized callee.class)) ∷ token_row predicate (ν (Entered callee)) ∷ copy_row predicate (ν (Returned callee)) (ν (Result name pc)) ∷ []

  abbrev pub return_rows : N → MemberName → Option N → List (Inequality N)
  return_rows predicate name None = []
  return_rows predicate name (Some top) = copy_row predicate top (ν (Returned name)) ∷ []

  abbrev pub rows_at : List PoolEntry → MemberName → At N → ℕ → Operation → List (Inequality N)
  rows_at pool name at pc (IntConstant c) = constant_row at.predicate c (ν (Result name pc)) ∷ []
  rows_at pool name at pc (InvokeStatic place) = call_rows at.predicate name pc (method_at pool place)
  rows_at pool name at pc IntReturn = return_rows at.predicate name (top_of at.stack)
  rows_at pool name at pc Return = token_row at.predicate (ν (Returned name)) ∷ []

  -- what is known behind it, where a path goes on
  abbrev pub behind_call : At N → N → Option MemberName → Option (At N)
  behind_call at result None = None
  behind_call at result (Some callee) = Some (record { predicate = result; stack = if bytes_eq callee.desc (codes "()V") then at.stack else at.stack ++ result ∷ [] })

  abbrev pub behind : List PoolEntry → MemberName → At N → ℕ → Operation → Option (At N)
  behind pool name at pc (IntConstant c) = Some (record { predicate = at.predicate; stack = at.stack ++ ν (Result name pc) ∷ [] })
  behind pool name at pc (InvokeStatic place) = behind_call at (ν (Result name pc)) (method_at pool place)
  behind pool name at pc IntReturn = None
  behind pool name at pc Return = None

  -- ---- a path

  abbrev pub rows_along : List PoolEntry → MemberName → Option (At N) → List Placed → List (Inequality N)
  rows_along pool name None os = []
  rows_along pool name (Some at) [] = []
  rows_along pool name (Some at) (o ∷ os) = rows_at pool name at o.pc o.operation ++ rows_along pool name (behind pool name at o.pc o.operation) os

  -- ---- a program

  abbrev pub found_rows : List PoolEntry → MemberName → Option (List Placed) → List (Inequality N)
  found_rows pool name None = []
  found_rows pool name (Some os) = rows_along pool name (Some (record { predicate = ν (Entered name); stack = [] })) os

  abbrev pub code_rows : List PoolEntry → MemberName → Option CodeInfo → List (Inequality N)
  code_rows pool name None = []
  code_rows pool name (Some code) = found_rows pool name (operations code.code)

  abbrev pub method_rows : ClassInfo → List MethodInfo → List (Inequality N)
  method_rows class [] = []
  method_rows class (m ∷ methods) = code_rows class.pool (method_name class m) m.code ++ method_rows class methods

  abbrev pub super_rows : ClassInfo → Option (List ℕ) → List (Inequality N)
  super_rows class None = []
  super_rows class (Some super) = if is_interface class.flags then [] else token_row (ν (Initialized class.name)) (ν (Initialized super)) ∷ []

  abbrev pub rows_of : List ClassInfo → List (Inequality N)
  rows_of [] = []
  rows_of (class ∷ classes) = super_rows class class.superclass ++ method_rows class class.methods ++ rows_of classes

-- ---- rows over other nodes

abbrev pub renamed_guard : {M N : Type 0} → (M → N) → Guard M → Guard N
renamed_guard ν Always = Always
renamed_guard ν (NonEmpty n) = NonEmpty (ν n)

abbrev pub renamed_value : {M N : Type 0} → (M → N) → ValueOp M → ValueOp N
renamed_value ν Token = Token
renamed_value ν (IntIs c) = IntIs c
renamed_value ν (Copy n) = Copy (ν n)

-- a row over other nodes
abbrev pub renamed : {M N : Type 0} → (M → N) → Inequality M → Inequality N
renamed ν q = record { target = ν q.target; guard = renamed_guard ν q.guard; value = renamed_value ν q.value }

-- the nodes of a row are among these
pub record HasNodesOf (nodes : List Node) (q : Inequality Node) : Type 0 where
  pub target : Contains nodes q.target
  pub guard : (n : Node) → q.guard ≡ NonEmpty n → Contains nodes n
  pub value : (n : Node) → q.value ≡ Copy n → Contains nodes n

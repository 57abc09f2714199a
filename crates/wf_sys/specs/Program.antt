-- The flow system of a program, a row for each case (this project's own, after SkipFlow, CGO 2025). A
-- program is the list of its classes.
use Rattle.std.specs.Prelude.{◌≡◌, ◌≤◌, ℕ, ◌+◌, ◌-◌, ◌*◌, ℤ, pos, ◌-ℤ◌, true, false, List, [], ◌∷◌, ◌++◌, length, Contains, Option, Some, slice_get, option_and_then, option_map, codes}
use Rattle.wf_data.specs.declared.class_info.ClassInfo.{ClassInfo}
use Rattle.wf_data.specs.declared.class_info.CodeInfo.{CodeInfo}
use Rattle.wf_data.specs.declared.class_info.MethodInfo.{MethodInfo}
use Rattle.wf_data.specs.declared.class_info.PoolEntry.{PoolEntry}
use Rattle.wf_names.specs.declared.member.MemberName.{MemberName}
use Rattle.wf_data.specs.Flags.{is_interface, is_static}
use Rattle.wf_data.specs.Pool.{method_at}
use Rattle.wf_sys.specs.declared.flow.Flow.{Flow}
use Rattle.wf_sys.specs.declared.flow.Flow.TheVariants.{Set}
use Rattle.wf_sys.specs.declared.inequality.Guard.TheVariants.{NonEmpty}
use Rattle.wf_sys.specs.declared.inequality.ValueOp.TheVariants.{Token, IntIs, Copy}
use Rattle.wf_sys.specs.declared.inequality.Inequality.{Inequality}
use Rattle.wf_sys.specs.Names.{method_name}
use Rattle.wf_sys.specs.Nodes.{Node, Start, Initialized, Entered, Returned, Result}

-- ---- what stands at a place of a code (JVMS 4.9.1, 6.5)

-- the byte there is this opcode
abbrev pub HasOpcode : List ℕ → ℕ → ℕ → Type 0
HasOpcode code pc opcode = slice_get code pc ≡ Some opcode

-- the number of two bytes behind an opcode
abbrev pub operand_at : List ℕ → ℕ → Option ℕ
operand_at code pc = option_and_then (λ high. option_map (λ low. 256 * high + low) (slice_get code (pc + 2))) (slice_get code (pc + 1))

-- `iconst_m1` to `iconst_5`, and the constant
pub record IsIntConstant (code : List ℕ) (pc : ℕ) (constant : ℤ) : Type 0 where
  pub opcode : ℕ
  pub there : HasOpcode code pc opcode
  pub least : 0x02 ≤ opcode
  pub greatest : opcode ≤ 0x08
  pub is : constant ≡ pos opcode -ℤ pos 3

-- opcodes of one instruction each
abbrev pub int_return_opcode : ℕ
int_return_opcode = 0xAC

abbrev pub return_opcode : ℕ
return_opcode = 0xB1

abbrev pub invoke_static_opcode : ℕ
invoke_static_opcode = 0xB8

-- ---- calls

-- a class of the program declares a static method of this name
pub record DeclaresStatic (program : List ClassInfo) (name : MemberName) : Type 0 where
  pub class : ClassInfo
  pub method : MethodInfo
  pub class_there : Contains program class
  pub method_there : Contains class.methods method
  pub static : is_static method.flags ≡ true
  pub named : name ≡ method_name class method

-- the method to which a static call of a name resolves: the named class declares it itself (JVMS 5.4.3.3)
pub data ResolvesStatic (program : List ClassInfo) : MemberName → MemberName → Type 0 where
  in_named_class : (name : MemberName) → DeclaresStatic program name → ResolvesStatic program name name

-- an `invokestatic` that resolves to a method
pub record CallsStatic (program : List ClassInfo) (pool : List PoolEntry) (code : List ℕ) (pc : ℕ) (callee : MemberName) : Type 0 where
  pub opcode : HasOpcode code pc invoke_static_opcode
  pub place : ℕ
  pub operand : operand_at code pc ≡ Some place
  pub name : MemberName
  pub named : method_at pool place ≡ Some name
  pub resolves : ResolvesStatic program name callee

-- ---- what is known before a place

-- A method of the program with its code, and the pool of its class.
pub record HasCode (program : List ClassInfo) (method : MemberName) (pool : List PoolEntry) (code : List ℕ) : Type 0 where
  pub class : ClassInfo
  pub info : MethodInfo
  pub body : CodeInfo
  pub class_there : Contains program class
  pub method_there : Contains class.methods info
  pub named : method ≡ method_name class info
  pub has_body : info.code ≡ Some body
  pub is_code : code ≡ body.code
  pub is_pool : pool ≡ class.pool

-- A place that a path reaches, its predicate and its stack. The predicate is what has to flow for the
-- instruction there to be carried out: that the method is entered, or behind a call that it returned. The
-- stack has the flows of its values, the top last.
pub data Before (program : List ClassInfo) (method : MemberName) (pool : List PoolEntry) (code : List ℕ) : ℕ → Node → List Node → Type 0 where
  at_entry : Before program method pool code 0 (Entered method) []
  behind_constant : (pc : ℕ) (predicate : Node) (stack : List Node) (constant : ℤ) → Before program method pool code pc predicate stack
      → IsIntConstant code pc constant → Before program method pool code (pc + 1) predicate (stack ++ Result method pc ∷ [])
  behind_void_call : (pc : ℕ) (predicate : Node) (stack : List Node) (callee : MemberName) → Before program method pool code pc predicate stack
      → CallsStatic program pool code pc callee → callee.desc ≡ codes "()V" → Before program method pool code (pc + 3) (Result method pc) stack
  behind_int_call : (pc : ℕ) (predicate : Node) (stack : List Node) (callee : MemberName) → Before program method pool code pc predicate stack
      → CallsStatic program pool code pc callee → callee.desc ≡ codes "()I" → Before program method pool code (pc + 3) (Result method pc) (stack ++ Result method pc ∷ [])

-- the flow on the top of a stack
abbrev pub top_of : {N : Type 0} → List N → Option N
top_of stack = slice_get stack (length stack - 1)

-- the predicate of a place of a method
pub record Predicate (program : List ClassInfo) (method : MemberName) (pc : ℕ) (predicate : Node) : Type 0 where
  pub pool : List PoolEntry
  pub code : List ℕ
  pub stack : List Node
  pub has_code : HasCode program method pool code
  pub before : Before program method pool code pc predicate stack

-- ---- the rows of the system

-- where the node's value isn't empty, the target is a token that is set
abbrev pub token_where : Node → Node → Inequality Node
token_where guard target = record { target = target; guard = NonEmpty guard; value = Token }

-- where the node's value isn't empty, the target is an int constant
abbrev pub constant_where : Node → ℤ → Node → Inequality Node
constant_where guard constant target = record { target = target; guard = NonEmpty guard; value = IntIs constant }

-- where the node's value isn't empty, the target has the value of another node
abbrev pub copy_where : Node → Node → Node → Inequality Node
copy_where guard source target = record { target = target; guard = NonEmpty guard; value = Copy source }

pub data Row (program : List ClassInfo) : Inequality Node → Type 0 where
  -- the initialization of a class that is no interface initializes its superclass (JVMS 5.5)
  initializes_superclass : (class : ClassInfo) (super : List ℕ) → Contains program class → is_interface class.flags ≡ false → class.superclass ≡ Some super
      → Row program (token_where (Initialized class.name) (Initialized super))
  -- an int constant is the result of its place
  constant : (method : MemberName) (pool : List PoolEntry) (code : List ℕ) (pc : ℕ) (predicate : Node) (stack : List Node) (value : ℤ) → HasCode program method pool code
      → Before program method pool code pc predicate stack → IsIntConstant code pc value → Row program (constant_where predicate value (Result method pc))
  -- `invokestatic`: the class that declares the method is initialized (JVMS 5.5)
  call_initializes : (method : MemberName) (pool : List PoolEntry) (code : List ℕ) (pc : ℕ) (predicate : Node) (stack : List Node) (callee : MemberName) → HasCode program method pool code
      → Before program method pool code pc predicate stack → CallsStatic program pool code pc callee → Row program (token_where predicate (Initialized callee.class))
  -- the method is entered
  call_enters : (method : MemberName) (pool : List PoolEntry) (code : List ℕ) (pc : ℕ) (predicate : Node) (stack : List Node) (callee : MemberName) → HasCode program method pool code
      → Before program method pool code pc predicate stack → CallsStatic program pool code pc callee → Row program (token_where predicate (Entered callee))
  -- and what it returns is the result of the place
  call_returns : (method : MemberName) (pool : List PoolEntry) (code : List ℕ) (pc : ℕ) (predicate : Node) (stack : List Node) (callee : MemberName) → HasCode program method pool code
      → Before program method pool code pc predicate stack → CallsStatic program pool code pc callee → Row program (copy_where predicate (Returned callee) (Result method pc))
  -- `ireturn`: the method returns the value on the top of the stack
  returns_int : (method : MemberName) (pool : List PoolEntry) (code : List ℕ) (pc : ℕ) (predicate top : Node) (stack : List Node) → HasCode program method pool code
      → Before program method pool code pc predicate stack → top_of stack ≡ Some top → HasOpcode code pc int_return_opcode → Row program (copy_where predicate top (Returned method))
  -- `return`: the method returns, with no value
  returns : (method : MemberName) (pool : List PoolEntry) (code : List ℕ) (pc : ℕ) (predicate : Node) (stack : List Node) → HasCode program method pool code
      → Before program method pool code pc predicate stack → HasOpcode code pc return_opcode → Row program (token_where predicate (Returned method))

-- The seeds of a root that is a static method: it is entered, and its class initialized. `Start` is a seed
-- of every run.
pub data Seed (root : MemberName) : Node → Flow → Type 0 where
  start : Seed root Start Set
  entered : Seed root (Entered root) Set
  initialized : Seed root (Initialized root.class) Set

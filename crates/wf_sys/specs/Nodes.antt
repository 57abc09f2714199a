-- The nodes of a program's flow system, by name. Classes and members are named by the bytes of their names.
use Rattle.std.specs.Prelude.{ℕ, List}
use Rattle.wf_names.specs.declared.member.MemberName.{MemberName}

pub data Node : Type 0 where
  -- the types that are instantiated
  Inst : Node
  -- a token that is always set
  Start : Node
  -- what never flows
  Nothing : Node
  -- the class's initialization is requested
  Initialized : List ℕ → Node
  -- the method is entered
  Entered : MemberName → Node
  -- the arguments at a place, the receiver first
  Parameter : MemberName → ℕ → Node
  -- the method returns
  Returned : MemberName → Node
  -- what the instruction at a place of a method gives
  Result : MemberName → ℕ → Node
  -- the field is touched
  Touched : MemberName → Node

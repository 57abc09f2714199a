-- A program's numbers and types, for tests: each node has a number but `Start`, and each error a type but
-- InstantiationError.
use Rattle.std.specs.Prelude.{ℕ, ◌+◌, ◌*◌, ◌%◌, Option, Some, None}
use Rattle.wf_base.specs.declared.ids.NodeId.{NodeId}
use Rattle.wf_base.specs.declared.ids.TypeId.{TypeId}
use Rattle.wf_rows.specs.declared.node.Node.{Node}
use Rattle.wf_rows.specs.declared.node.Node.TheVariants.{Inst, Start, Nothing, Initialized, Entered, Parameter, Returned, Held, Touched, Element, Copied, In}
use Rattle.wf_rows.specs.declared.node.Own.{Own}
use Rattle.wf_rows.specs.declared.node.Own.TheVariants.{Result, Refined, Block, Merged, Caught, Links}
use Rattle.wf_rows.specs.declared.throwable.Throwable.{Throwable}
use Rattle.wf_rows.specs.declared.throwable.Throwable.TheVariants as throwable

abbrev pub coded : ℕ → ℕ → NodeId
coded tag id = record { 0 = tag + 32 * (id % 1000000) }

abbrev pub own_number : Own → NodeId
own_number (Result pc) = coded 16 pc
own_number (Refined pc edge operand) = coded 17 (pc % 1000 * 1000 + edge % 100 * 10 + operand % 10)
own_number (Block pc) = coded 18 pc
own_number (Merged pc slot) = coded 19 (pc % 1000 * 1000 + slot % 1000)
own_number (Caught entry) = coded 20 entry
own_number (Links pc) = coded 21 pc

abbrev pub example_number : Node Own → Option NodeId
example_number Inst = Some (coded 0 0)
example_number Start = None
example_number Nothing = Some (coded 1 0)
example_number (Initialized c) = Some (coded 2 c.0)
example_number (Entered m) = Some (coded 3 m.0)
example_number (Parameter m i) = Some (coded 4 (m.0 % 1000 * 1000 + i % 1000))
example_number (Returned m) = Some (coded 5 m.0)
example_number (Held f) = Some (coded 6 f.0)
example_number (Touched f) = Some (coded 7 f.0)
example_number (Element t) = Some (coded 8 t.0)
example_number (Copied n) = Some (coded 9 n)
example_number (In o) = Some (own_number o)

abbrev pub example_thrown : Throwable → Option TypeId
example_thrown throwable.NullPointer = Some (record { 0 = 50 })
example_thrown throwable.ArrayIndexOutOfBounds = Some (record { 0 = 51 })
example_thrown throwable.ArrayStore = Some (record { 0 = 52 })
example_thrown throwable.NegativeArraySize = Some (record { 0 = 53 })
example_thrown throwable.ClassCast = Some (record { 0 = 54 })
example_thrown throwable.Arithmetic = Some (record { 0 = 55 })
example_thrown throwable.AbstractMethod = Some (record { 0 = 56 })
example_thrown throwable.IncompatibleClassChange = Some (record { 0 = 57 })
example_thrown throwable.NoClassDefFound = Some (record { 0 = 58 })
example_thrown throwable.NoSuchField = Some (record { 0 = 59 })
example_thrown throwable.NoSuchMethod = Some (record { 0 = 60 })
example_thrown throwable.Instantiation = None
example_thrown throwable.ExceptionInInitializer = Some (record { 0 = 61 })

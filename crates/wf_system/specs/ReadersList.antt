-- The list that readers are.
use Rattle.std.specs.Prelude.{List}
use Rattle.wf_base.specs.declared.ids.NodeId.{NodeId}
use Rattle.wf_system.specs.declared.inequality.Inequality.{Inequality}
use Rattle.wf_system.specs.declared.bodies.Readers.{Readers}
use Rattle.wf_system.specs.declared.bodies.Readers.TheVariants.{Kept, Own}

abbrev pub readers_list : Readers → List (Inequality NodeId)
readers_list (Kept list) = list.now
readers_list (Own list) = list

-- Flows as nodes (this project's own, after SkipFlow, CGO 2025).
use Rattle.std.specs.Prelude.{ℕ, map}
use Rattle.wf_base.specs.declared.ids.MethodId.{MethodId}
use Rattle.wf_ssa.specs.declared.before.Before.{Before}
use Rattle.wf_ssa.specs.declared.name.FlowName.{FlowName}
use Rattle.wf_ssa.specs.declared.name.FlowName.TheVariants as flow
use Rattle.wf_rows.specs.declared.node.Node.{Node}
use Rattle.wf_rows.specs.declared.node.Node.TheVariants.{Nothing, Entered, Parameter, In}
use Rattle.wf_rows.specs.declared.node.Own.{Own}
use Rattle.wf_rows.specs.declared.node.Own.TheVariants as own
use Rattle.wf_rows.specs.Before.{Before as Known}

-- the node of a flow in the body of a method
abbrev pub node_of : MethodId → FlowName → Node Own
node_of m flow.Nothing = Nothing
node_of m flow.Entry = Entered m
node_of m (flow.Par i) = Parameter m i
node_of m (flow.Res pc) = In (own.Result pc)
node_of m (flow.Refined pc edge operand) = In (own.Refined pc edge operand)
node_of m (flow.Blk pc) = In (own.Block pc)
node_of m (flow.Phi pc slot) = In (own.Merged pc slot)
node_of m (flow.Cat entry) = In (own.Caught entry)

-- what is known in front of a place, by nodes
abbrev pub known_at : MethodId → ℕ → Before → Known
known_at m pc k = record { method = m; pc = pc; predicate = node_of m k.predicate; slots = map (node_of m) k.names }

-- Why a method has no inequalities (this project's own).
use Rattle.std.specs.Prelude.{ℕ, ◌+◌, ◌<◌, ◌^◌}
use Rattle.wf_refusals.specs.declared.body.BodyFault.{BodyFault}
use Rattle.wf_refusals.specs.declared.body.BodyFault.TheVariants as body
use Rattle.wf_body.specs.Parts.{Parts}
use Rattle.wf_body.specs.Sources.{MethodSource, IsFaultOf}
use Rattle.wf_graph.specs.declared.fault.MethodFault.{MethodFault}
use Rattle.wf_graph.specs.declared.fault.MethodFault.TheVariants.{Refused, TooMany, NoMemory}
use Rattle.wf_graph.specs.Bodies.{Body, HasBody}
use Rattle.wf_graph.specs.Numbering.{body_count}

abbrev pub fault_of : BodyFault → MethodFault
fault_of (body.Refused r) = Refused r
fault_of body.NoMemory = NoMemory

-- behind those in front of it, a method has more nodes than four bytes number
pub record HasTooMany (p : Parts) (s : MethodSource) (first : ℕ) : Type 0 where
  pub body : Body
  pub has : HasBody p s body
  pub many : 2 ^ 32 < first + body_count body

abbrev pub IsMethodFault : Parts → MethodSource → ℕ → MethodFault → Type 0
IsMethodFault p s first (Refused r) = IsFaultOf s (body.Refused r)
IsMethodFault p s first TooMany = HasTooMany p s first
IsMethodFault p s first NoMemory = Unit {0}

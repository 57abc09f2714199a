-- What holds of all environments.
use Rattle.std.specs.Prelude.{◌≡◌, ℕ, ◌<◌, ◌==◌, Bool, false, List, length}
use Rattle.wf_blocks.specs.declared.body.Body.{Body}
use Rattle.wf_ssa.specs.declared.before.Before.{Before}
use Rattle.wf_ssa.specs.declared.name.FlowName.{FlowName}
use Rattle.wf_ssa.specs.declared.name.FlowName.TheVariants.{Res, Refined}
use Rattle.wf_ssa.specs.Environments.{pc_at, IsKnown}

-- whether a flow is what the instruction there gives, or what is left of an operand of it
abbrev pub is_of : ℕ → FlowName → Bool
is_of pc (Res p) = p == pc
is_of pc (Refined p edge operand) = p == pc
is_of pc other = false

-- no two instructions stand in one place
pub record AreApart (b : Body) : Type 0 where
  pub same : (p q : ℕ) → p < length b.steps → q < length b.steps → pc_at b p ≡ pc_at b q → p ≡ q

-- something is known in front of a place
pub record HasBefore (b : Body) (failing : List ℕ) (place : ℕ) : Type 0 where
  pub before : Before
  pub there : IsKnown b failing place before

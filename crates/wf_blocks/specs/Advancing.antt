-- Why the worklist ends, and that it stays within bounds (this project's own).
use Rattle.std.specs.Prelude.{◌≡◌, ℕ, ◌+◌, ◌*◌, ◌<◌, ◌≤◌, List, length, All, Option}
use Rattle.wf_blocks.specs.declared.body.Body.{Body}
use Rattle.wf_blocks.specs.declared.seen.Seen.{Seen}
use Rattle.wf_blocks.specs.declared.walk.Stepped.{Stepped}
use Rattle.wf_blocks.specs.declared.walk.Stepped.TheVariants.{Bad, Done, On}
use Rattle.wf_blocks.specs.Bodies.{locals_of}
use Rattle.wf_blocks.specs.Flowing.{RowFits, left_in}

-- the most slots that a row may have: those of the method, and one for what is thrown
abbrev pub width_of : Body → ℕ
width_of b = locals_of b + b.max_stack + 1

-- each place has a row or none, rows are no wider than that, and the queue names places
pub record Ready (b : Body) (rows : List (Option (List Seen))) (waiting : List ℕ) : Type 0 where
  pub count : length rows ≡ length b.steps
  pub fits : All (RowFits (width_of b)) rows
  pub below : All (λ p. p < length b.steps) waiting

-- what is left to be done gets no more
pub record Advances (b : Body) (old new : List (Option (List Seen))) (waiting waiting' : List ℕ) : Type 0 where
  pub ready : Ready b new waiting'
  pub less : 2 * left_in (width_of b) new + length waiting' ≤ 2 * left_in (width_of b) old + length waiting

-- the same, and a step to the next place comes to one
pub record StepsOn (b : Body) (old new : List (Option (List Seen))) (waiting waiting' : List ℕ) (place : ℕ) (after : List Seen) : Type 0 where
  pub advances : Advances b old new waiting waiting'
  pub low : length after ≤ width_of b
  pub inside : place + 1 < length b.steps

abbrev pub StepAdvances : Body → List (Option (List Seen)) → List (Option (List Seen)) → List ℕ → List ℕ → ℕ → Stepped → Type 0
StepAdvances b old new waiting waiting' place Bad = Unit {0}
StepAdvances b old new waiting waiting' place Done = Advances b old new waiting waiting'
StepAdvances b old new waiting waiting' place (On after) = StepsOn b old new waiting waiting' place after

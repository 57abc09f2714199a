-- What each value of a run has, whatever a tree answers.
use Rattle.std.specs.Prelude.{ℕ, List}
use Rattle.wf_io.specs.declared.tree.Entry.{Entry}
use Rattle.wf_runs.specs.Run.{Run, Gives, Refuses, Lists, Reads}

-- each value that the run may give has P
abbrev pub Every : {X : Type 0} → (X → Type 0) → Run X → Type 0
Every P (Gives x) = P x
Every P (Refuses refusal) = Unit {0}
Every P (Lists dir most over k) = (entries : List Entry) → Every P (k entries)
Every P (Reads path most over k) = (bytes : List ℕ) → Every P (k bytes)

-- The bytes of a text, however they are kept.
use Rattle.std.specs.Prelude.{ℕ, ◌+◌, ◌≤◌, List, length, take, drop}
use Rattle.wf_base.specs.declared.text.Bytes.{Bytes}
use Rattle.wf_base.specs.declared.text.Bytes.TheVariants.{Own, Shared}

abbrev pub bytes_of : Bytes → List ℕ
bytes_of (Own bytes) = bytes.items
bytes_of (Shared bytes first len) = take len (drop first bytes.value.items)

-- the part that a text has of shared bytes is there
abbrev pub Fits : Bytes → Type 0
Fits (Own bytes) = Unit {0}
Fits (Shared bytes first len) = first + len ≤ length bytes.value.items

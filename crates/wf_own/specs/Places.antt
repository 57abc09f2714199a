-- A table of the first place of each node of a list.
use Rattle.std.specs.Prelude.{◌≡◌, ℕ, List, position}
use Rattle.indexmap.specs.IndexMap.{IndexMap, get_by}
use Rattle.wf_rows.specs.declared.node.Own.{Own}
use Rattle.wf_own.specs.OwnNumbers.{same_own}

abbrev pub ArePlaces : {S : Type 0} → IndexMap Own ℕ S → List Own → Type 0
ArePlaces places nodes = (own : Own) → get_by (same_own own) places ≡ position (same_own own) nodes

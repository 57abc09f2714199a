-- How the places of a code are looked up (this project's own).
use Rattle.std.specs.Prelude.{◌≡◌, ℕ, ◌≤◌, List, length, Option, None, slice_index_or}
use Rattle.wf_blocks.specs.Methods.{number_of}

-- the number of the place at each place in bytes
pub record AreNumbers (pcs : List ℕ) (numbers : List (Option ℕ)) : Type 0 where
  pub few : length pcs ≤ 65535
  pub each : (pc : ℕ) → slice_index_or numbers pc None ≡ number_of pcs pc

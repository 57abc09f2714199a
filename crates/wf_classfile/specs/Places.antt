-- What was seen at the places of a pool.
use Rattle.std.specs.Prelude.{◌≡◌, ℕ, List, Option, Some, None}
use Rattle.std.specs.Ordering.{nat_cmp}
use Rattle.std.specs.BTreeMap as tree
use Rattle.std.specs.BTreeMap.{BTreeMap}
use Rattle.wf_data.specs.declared.class_info.PoolEntry.{PoolEntry}
use Rattle.wf_data.specs.Pool.{text_at}
use Rattle.wf_classfile.specs.declared.texts.Seen.{Seen}
use Rattle.wf_classfile.specs.Numbers.{number_in}

-- the text that stands there, and its number
pub record IsSeen (pool : List PoolEntry) (numbers : List (List ℕ × ℕ)) (place : ℕ) (seen : Seen) : Type 0 where
  pub text : text_at pool place ≡ Some seen.known
  pub number : number_in numbers seen.known ≡ Some seen.number

abbrev pub IsFound : List PoolEntry → List (List ℕ × ℕ) → ℕ → Option Seen → Type 0
IsFound pool numbers place (Some seen) = IsSeen pool numbers place seen
IsFound pool numbers place None = text_at pool place ≡ None

pub record AreSeen (pool : List PoolEntry) (places : BTreeMap ℕ Seen) (numbers : List (List ℕ × ℕ)) : Type 0 where
  pub seen : (place : ℕ) (s : Seen) → tree.get nat_cmp places place ≡ Some s → IsSeen pool numbers place s
  pub stands : (text : List ℕ) (n : ℕ) → number_in numbers text ≡ Some n → text_at pool n ≡ Some text

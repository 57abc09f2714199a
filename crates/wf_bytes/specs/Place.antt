-- A place in the bytes of a file: how many were passed, and those that are left.
use Rattle.std.specs.Prelude.{◌≡◌, ℕ, ◌+◌, ◌<◌, ◌≤◌, List, length, take, drop, Option, Some, None}
use Rattle.std.specs.Int.{Width, byte_len, from_be_bytes}

pub record Place : Type 0 where
  pub at : ℕ
  pub left : List ℕ

abbrev pub spot : ℕ → List ℕ → Place
spot at left = record { at = at; left = left }

-- the place behind the next n bytes
abbrev pub after : Place → ℕ → Place
after p n = spot (p.at + n) (drop n p.left)

-- the number that the next bytes are, the highest first
abbrev pub number_at : Width → Place → ℕ
number_at w p = from_be_bytes w (take (byte_len w) p.left)

-- What a read of a number gives: nothing exactly where too few bytes are left, and then the place stays.
abbrev pub ReadsNumber : Width → Place → Place → Option ℕ → Type 0
ReadsNumber w old new None = (length old.left < byte_len w) × (new ≡ old)
ReadsNumber w old new (Some n) = (byte_len w ≤ length old.left) × (new ≡ after old (byte_len w)) × (n ≡ number_at w old)

-- the same for a run of n bytes
abbrev pub TakesBytes : ℕ → Place → Place → Option (List ℕ) → Type 0
TakesBytes n old new None = (length old.left < n) × (new ≡ old)
TakesBytes n old new (Some bytes) = (n ≤ length old.left) × (new ≡ after old n) × (bytes ≡ take n old.left)

-- the same for a place that has these bytes alone
abbrev pub PartsAt : ℕ → Place → Place → Option Place → Type 0
PartsAt n old new None = (length old.left < n) × (new ≡ old)
PartsAt n old new (Some part) = (n ≤ length old.left) × (new ≡ after old n) × (part ≡ spot old.at (take n old.left))

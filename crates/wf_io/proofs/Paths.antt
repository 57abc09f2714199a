-- Paths below a directory.
use Rattle.std.proofs.Common.{◌≡◌, ℕ, List, [], ◌∷◌, ◌++◌, take, drop, length, Bool, true, false, refl, Option, None, nat_eq, ◌&&◌, ◌==◌, if◌then◌else◌, arith}
use Rattle.std.specs.Cmp.Lexicographic.{pointwise}
use Rattle.std.proofs.lemmas.Bool.Decides.{nat_tests}
use Rattle.wf_io.specs.declared.tree.Entry.{Entry}
use Rattle.wf_io.specs.Tree.{rest_of}

-- an entry with more bytes in front of its name
abbrev pub behind : List ℕ → Entry → Entry
behind front e = record { name = front ++ e.name; is_dir = e.is_dir }

step_front : (b d : ℕ) (same : Bool) (r s : Option (List ℕ)) → (same ≡ true → r ≡ s) → (nat_eq b d && same) ≡ true → (if d == b then r else None) ≡ s
step_front b d same r s f h = grind (arith, nat_tests)

-- a path that begins with the directory
pub rest_of-front : (dir path : List ℕ) → pointwise nat_eq (take (length dir) path) dir ≡ true → rest_of dir path ≡ rest_of [] (drop (length dir) path)
rest_of-front [] path h = refl
rest_of-front (d ∷ dir) [] h = refl
rest_of-front (d ∷ dir) (b ∷ path) h = step_front b d _ _ _ (rest_of-front dir path) h

step_other : (b d : ℕ) (same : Bool) (r : Option (List ℕ)) → (same ≡ false → r ≡ None) → (nat_eq b d && same) ≡ false → (if d == b then r else None) ≡ None
step_other b d same r f h = grind (arith, nat_tests)

-- a path that begins otherwise
pub rest_of-other : (dir path : List ℕ) → pointwise nat_eq (take (length dir) path) dir ≡ false → rest_of dir path ≡ None
rest_of-other [] path h = cc
rest_of-other (d ∷ dir) [] h = refl
rest_of-other (d ∷ dir) (b ∷ path) h = step_other b d _ _ (rest_of-other dir path) h

pub ruleset rest_laws = (rest_of-front, rest_of-other)

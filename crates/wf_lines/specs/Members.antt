-- Members in lines (this project's own).
use Rattle.std.specs.Prelude.{◌≡◌, ℕ, ◌+◌, ◌<◌, false, List, [], ◌∷◌, ◌++◌, Option, Some, None, ◌==◌, length, position, take, drop}
use Rattle.std.specs.List.{list_any}
use Rattle.wf_base.specs.Bytes.{IsBytes}
use Rattle.wf_names.specs.declared.member.MemberName.{MemberName}
use Rattle.wf_names.specs.NameForm.{escaped, member_of, name_of}

-- a chain of what has to be there
infixl 10 ◌>>=◌
abbrev pub ◌>>=◌ : {A B : Type 0} → Option A → (A → Option B) → Option B
(Some x) >>= f = f x
None >>= f = None

-- the class and the name that a word divides at this place
abbrev pub divided : Option ℕ → List ℕ → Option (List ℕ × List ℕ)
divided None word = None
divided (Some i) word = name_of (take i word) >>= λ class. name_of (drop (i + 1) word) >>= λ name. Some (class, name)

-- A field or method is two words: its class and its name, divided by the first `.`, and its descriptor. Each
-- of the three is a name in the form of names.
abbrev pub member_said : List ℕ → List ℕ → Option MemberName
member_said word desc = divided (position (λ b. b == 46) word) word >>= λ names. name_of desc >>= λ d. Some (member_of names.0 names.1 d)

-- the two words of a member
abbrev pub member_words : MemberName → List (List ℕ)
member_words m = (escaped m.class ++ 46 ∷ escaped m.name) ∷ escaped m.desc ∷ []

-- a name of bytes, with at least one
pub record IsPrintedName (name : List ℕ) : Type 0 where
  pub bytes : IsBytes name
  pub some : 0 < length name

-- a member that is told by its two words: three such names, and no `.` in the class
pub record IsPrintedMember (m : MemberName) : Type 0 where
  pub class : IsPrintedName m.class
  pub name : IsPrintedName m.name
  pub desc : IsPrintedName m.desc
  pub undotted : list_any (λ b. b == 46) m.class ≡ false

-- What the writers of classes give, against the functions that write lists (this project's own).
use Rattle.std.specs.Prelude.{◌≡◌, ℕ, ◌^◌, ◌≤◌, List, length, Option, Some, None, Result, Ok, Err}
use Rattle.wf_data.specs.declared.class_info.ClassInfo.{ClassInfo}
use Rattle.wf_grammar.specs.Writing.{spelling}
use Rattle.wf_classfile.specs.declared.fault.SpellFault.{SpellFault}
use Rattle.wf_classfile.specs.declared.fault.SpellFault.TheVariants.{NotSpellable, NoMemory}

-- nothing spells what is written, or memory ran out
abbrev pub Fails : SpellFault → Option (List ℕ) → Type 0
Fails NotSpellable written = written ≡ None
Fails NoMemory written = Unit {0}

-- A writer left this behind: all that is written there; or it failed.
abbrev pub Writes : List ℕ → Result (Unit {0}) SpellFault → Option (List ℕ) → Type 0
Writes new (Ok u) written = written ≡ Some new
Writes new (Err e) written = Fails e written

-- The same of a text that is given.
abbrev pub GivesText : Result (List ℕ) SpellFault → Option (List ℕ) → Type 0
GivesText (Ok text) written = written ≡ Some text
GivesText (Err e) written = Fails e written

-- bytes that spell the class are too many to be read
pub record IsTooLong (written : Option (List ℕ)) : Type 0 where
  pub bytes : List ℕ
  pub is : written ≡ Some bytes
  pub many : 2 ^ 32 ≤ length bytes

-- A class that was written and read again is the same, where what was written can be read.
abbrev pub GivesAgain : ClassInfo → Result (Option ClassInfo) SpellFault → Type 0
GivesAgain class (Ok (Some again)) = again ≡ class
GivesAgain class (Ok None) = IsTooLong (spelling class)
GivesAgain class (Err e) = Fails e (spelling class)

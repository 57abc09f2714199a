-- The members that were met.
use Rattle.std.specs.Prelude.{◌≡◌, ℕ, List, [], ◌∷◌, Some}
use Rattle.wf_data.specs.declared.class_info.PoolEntry.{PoolEntry}
use Rattle.wf_grammar.specs.ClassFile.{Key}
use Rattle.wf_classfile.specs.Numbers.{number_in, text_there}

-- the members of a pool that were met, in their order, and the numbers that its texts have so far
pub record Met : Type 0 where
  pub pool : List PoolEntry
  pub numbers : List (List ℕ × ℕ)
  pub met : List Key

-- the name and the descriptor that stand at two places
abbrev pub key_of : List PoolEntry → ℕ × ℕ → Key
key_of pool places = (text_there pool places.0, text_there pool places.1)

-- the two places are the numbers of the texts that stand there
pub record AreNumbersOf (pool : List PoolEntry) (numbers : List (List ℕ × ℕ)) (places : ℕ × ℕ) : Type 0 where
  pub name : number_in numbers (text_there pool places.0) ≡ Some places.0
  pub desc : number_in numbers (text_there pool places.1) ≡ Some places.1

abbrev pub AreNumbers : List PoolEntry → List (List ℕ × ℕ) → List (ℕ × ℕ) → Type 0
AreNumbers pool numbers [] = Unit {0}
AreNumbers pool numbers (p ∷ met) = AreNumbersOf pool numbers p × AreNumbers pool numbers met

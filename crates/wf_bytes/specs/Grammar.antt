-- The pieces that a grammar of bytes is made of. A grammar relates bytes to what they spell.
use Rattle.std.specs.Prelude.{◌≡◌, ℕ, zero, suc, ◌^◌, ◌<◌, Bool, true, false, List, [], ◌∷◌, ◌++◌, length, Option, Some}
use Rattle.std.specs.Int.{Width, w8, w16, w32, w64, byte_len, to_be_bytes}

-- a number of a width, the highest byte first
pub record Number (w : Width) (bytes : List ℕ) (n : ℕ) : Type 0 where
  pub spelled : bytes ≡ to_be_bytes w n
  pub small : n < 256 ^ byte_len w

-- u1, u2, u4 and u8 (JVMS 4)
abbrev pub U1 : List ℕ → ℕ → Type 0
U1 = Number w8

abbrev pub U2 : List ℕ → ℕ → Type 0
U2 = Number w16

abbrev pub U4 : List ℕ → ℕ → Type 0
U4 = Number w32

abbrev pub U8 : List ℕ → ℕ → Type 0
U8 = Number w64

-- n bytes, as they stand
pub record Run (n : ℕ) (bytes value : List ℕ) : Type 0 where
  pub same : value ≡ bytes
  pub count : length bytes ≡ n

-- nothing more, and this value
pub record Is {X : Type 0} (x : X) (bytes : List ℕ) (y : X) : Type 0 where
  pub nothing : bytes ≡ []
  pub same : y ≡ x

-- first a piece, and then another that depends on what the first spells
pub record Then {A B : Type 0} (G : List ℕ → A → Type 0) (H : A → List ℕ → B → Type 0) (bytes : List ℕ) (y : B) : Type 0 where
  pub first : List ℕ
  pub second : List ℕ
  pub value : A
  pub parts : bytes ≡ first ++ second
  pub front : G first value
  pub back : H value second y

-- a piece under a condition
pub record Where {B : Type 0} (test : Bool) (G : List ℕ → B → Type 0) (bytes : List ℕ) (y : B) : Type 0 where
  pub holds : test ≡ true
  pub rest : G bytes y

-- a piece where a fact holds
pub record That {B : Type 0} (P : Type 0) (G : List ℕ → B → Type 0) (bytes : List ℕ) (y : B) : Type 0 where
  pub holds : P
  pub rest : G bytes y

-- a piece that depends on a value which has to be there
pub record Given {A B : Type 0} (o : Option A) (G : A → List ℕ → B → Type 0) (bytes : List ℕ) (y : B) : Type 0 where
  pub value : A
  pub found : o ≡ Some value
  pub rest : G value bytes y

-- one of two pieces
abbrev pub Choice : {B : Type 0} → Bool → (List ℕ → B → Type 0) → (List ℕ → B → Type 0) → List ℕ → B → Type 0
Choice true G H = G
Choice false G H = H

-- nothing more, and this value, which the bytes inside spell, all of them
pub record Inside {X : Type 0} (G : List ℕ → X → Type 0) (inside bytes : List ℕ) (y : X) : Type 0 where
  pub nothing : bytes ≡ []
  pub spelled : G inside y

-- n pieces, one after another
abbrev pub Many : {X : Type 0} → (List ℕ → X → Type 0) → ℕ → List ℕ → List X → Type 0
Many G zero = Is []
Many G (suc n) = Then G (λ x. Then (Many G n) (λ xs. Is (x ∷ xs)))

-- a count of two bytes, and so many pieces
abbrev pub Counted : {X : Type 0} → (List ℕ → X → Type 0) → List ℕ → List X → Type 0
Counted G = Then U2 (Many G)

-- n pieces, of which each knows what those before it left, and what the last one left
abbrev pub ManyOn : {X K : Type 0} → (K → List ℕ → X × K → Type 0) → ℕ → K → List ℕ → List X × K → Type 0
ManyOn G zero k = Is ([], k)
ManyOn G (suc n) k = Then (G k) (λ x. Then (ManyOn G n x.1) (λ xs. Is (x.0 ∷ xs.0, xs.1)))

-- n pieces, each of which takes what those before it left to what it leaves
abbrev pub Times : {K : Type 0} → (K → List ℕ → K → Type 0) → ℕ → K → List ℕ → K → Type 0
Times G zero k = Is k
Times G (suc n) k = Then (G k) (Times G n)

-- a count of two bytes, and so many of these
abbrev pub CountedOn : {K : Type 0} → (K → List ℕ → K → Type 0) → K → List ℕ → K → Type 0
CountedOn G k = Then U2 (λ n. Times G n k)

-- what no bytes spell
abbrev pub Never : {X : Type 0} → List ℕ → X → Type 0
Never bytes x = ⊥

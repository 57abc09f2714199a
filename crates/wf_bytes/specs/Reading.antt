-- Reading bytes from left to right, with the first fault that is met: for each piece that a grammar is made of,
-- the function that reads it from the front of the bytes that are left.
use Rattle.std.specs.Prelude.{ℕ, zero, suc, Bool, true, false, List, [], ◌∷◌, Option, Some, None, Result, Ok, Err, ◌==◌, nat_lt, length, take, if◌then◌else◌}
use Rattle.std.specs.Int.{Width, w16, byte_len}
use Rattle.wf_bytes.specs.declared.fault.Why.{Why}
use Rattle.wf_bytes.specs.declared.fault.Why.TheVariants as why
use Rattle.wf_bytes.specs.Place.{Place, after, number_at}

-- what is wrong, and where: the place of the first byte of the item that is named
pub record Fault : Type 0 where
  pub offset : ℕ
  pub why : Why

abbrev pub bad : ℕ → Why → Fault
bad offset fault = record { offset = offset; why = fault }

infixl 10 ◌>>=◌
abbrev pub ◌>>=◌ : {A B : Type 0} → Result A Fault → (A → Result B Fault) → Result B Fault
(Ok x) >>= f = f x
(Err e) >>= f = Err e

-- what is read, and the place behind it
abbrev pub Reader : Type 0 → Type 0
Reader X = Place → Result (X × Place) Fault

abbrev pub wanted : Bool → ℕ → Why → Result (Unit {0}) Fault
wanted true at fault = Ok tt
wanted false at fault = Err (bad at fault)

abbrev pub found : {A : Type 0} → Option A → ℕ → Why → Result A Fault
found (Some x) at fault = Ok x
found None at fault = Err (bad at fault)

unfoldable pub number : Width → Reader ℕ
number w p = if nat_lt (length p.left) (byte_len w) then Err (bad p.at why.Cut) else Ok (number_at w p, after p (byte_len w))

unfoldable pub run : ℕ → Reader (List ℕ)
run n p = if nat_lt (length p.left) n then Err (bad p.at why.Cut) else Ok (take n p.left, after p n)

unfoldable pub many : {X : Type 0} → Reader X → ℕ → Reader (List X)
many r zero p = Ok ([], p)
many r (suc n) p = do
  x ← r p
  xs ← many r n x.1
  Ok (x.0 ∷ xs.0, xs.1)

unfoldable pub many_on : {X K : Type 0} → (K → Reader (X × K)) → ℕ → K → Reader (List X × K)
many_on r zero k p = Ok (([], k), p)
many_on r (suc n) k p = do
  x ← r k p
  xs ← many_on r n x.0.1 x.1
  Ok ((x.0.0 ∷ xs.0.0, xs.0.1), xs.1)

unfoldable pub times : {K : Type 0} → (K → Reader K) → ℕ → K → Reader K
times r zero k p = Ok (k, p)
times r (suc n) k p = do
  l ← r k p
  times r n l.0 l.1

unfoldable pub counted : {X : Type 0} → Reader X → Reader (List X)
counted r p = do
  n ← number w16 p
  many r n.0 n.1

unfoldable pub counted_on : {K : Type 0} → (K → Reader K) → K → Reader K
counted_on r k p = do
  n ← number w16 p
  times r n.0 k n.1

abbrev pub is_cut : Why → Bool
is_cut why.Cut = true
is_cut fault = false

-- Reads the inside of an attribute, all of it. What passes its end is a fault of its length.
abbrev pub whole : {X : Type 0} → ℕ → Result (X × Place) Fault → Result X Fault
whole at (Ok (x, q)) = if length q.left == 0 then Ok x else Err (bad at why.Length)
whole at (Err fault) = if is_cut fault.why then Err (bad at why.Length) else Err fault

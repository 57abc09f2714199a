-- An instruction has as many bytes as its size says.
use Rattle.std.proofs.Common.{◌≡◌, ℕ, zero, suc, ◌+◌, ◌-◌, ◌*◌, ◌%◌, ◌^◌, ◌≤◌, ℤ, Bool, true, false, if◌then◌else◌, nat_le, nat_lt, List, [], ◌∷◌, ◌++◌, length, Option, Some, None, option_and_then, refl, sym, ap, ◌∙◌, arith, length-append}
use Rattle.std.specs.Int.{w16, w32, to_be_bytes, cast_signed, cast_unsigned}
use Rattle.std.specs.Ordering.{int_eq}
use Rattle.wf_opcode.specs.Instructions.{padding}
use Rattle.wf_listing.specs.declared.listing.Constant.{Constant}
use Rattle.wf_listing.specs.declared.listing.ListedCase.{ListedCase}
use Rattle.wf_listing.specs.declared.listing.ListedTable.{ListedTable}
use Rattle.wf_listing.specs.declared.listing.Step.{Step}
use Rattle.wf_listing.specs.declared.listing.Step.TheVariants as step
use Rattle.wf_asm.specs.Building.{Label, distance, distance_bytes, signed_bytes, four_bytes, onto, joined, zeros, table_bytes, case_bytes, lookup_bytes, switch_bytes, high_of, keys_bytes, place_bytes, step_bytes, size_of_step}
use Rattle.wf_asm.specs.Constants.{place_of}

-- bytes that are so many, where they can be
pub record Sized (o : Option (List ℕ)) (n : ℕ) : Type 0 where
  pub is : (bytes : List ℕ) → o ≡ Some bytes → length bytes ≡ n

nothing : (n : ℕ) → Sized None n
nothing n = record { is = λ bytes h. absurd (none bytes h) }
  where
    none : (bytes : List ℕ) → None ≡ Some bytes → ⊥
    none bytes h = cc

there : (front : List ℕ) → Sized (Some front) (length front)
there front = record { is = λ bytes h. same bytes h }
  where
    same : (bytes : List ℕ) → Some front ≡ Some bytes → length bytes ≡ length front
    same bytes h = let one : front ≡ bytes = cc in ap length (sym one)

as_many : (o : Option (List ℕ)) (n m : ℕ) → n ≡ m → Sized o n → Sized o m
as_many o n m e s = record { is = λ bytes h. s.is bytes h ∙ e }

both : (a b : Option (List ℕ)) (n m : ℕ) → Sized a n → Sized b m → Sized (joined a b) (n + m)
unfolding joined onto
both None b n m p q = nothing (n + m)
both (Some front) None n m p q = nothing (n + m)
both (Some front) (Some back) n m p q =
    let one : length front ≡ n = p.is front refl in
    let two : length back ≡ m = q.is back refl in
    as_many (Some (front ++ back)) (length (front ++ back)) (n + m) (omega (arith, length-append front back)) (there (front ++ back))

-- ---- numbers

signed_two : (n : ℤ) → Sized (signed_bytes w16 n) 2
unfolding signed_bytes
signed_two n = go (int_eq (cast_signed w16 (cast_unsigned w16 n)) n)
  where
    go : (b : Bool) → Sized (if b then Some (to_be_bytes w16 (cast_unsigned w16 n)) else None) 2
    go true = there (to_be_bytes w16 (cast_unsigned w16 n))
    go false = nothing 2

signed_four : (n : ℤ) → Sized (signed_bytes w32 n) 4
unfolding signed_bytes
signed_four n = go (int_eq (cast_signed w32 (cast_unsigned w32 n)) n)
  where
    go : (b : Bool) → Sized (if b then Some (to_be_bytes w32 (cast_unsigned w32 n)) else None) 4
    go true = there (to_be_bytes w32 (cast_unsigned w32 n))
    go false = nothing 4

count_four : (n : ℕ) → Sized (four_bytes n) 4
count_four n = go (nat_lt n (2 ^ 32))
  where
    go : (b : Bool) → Sized (if b then Some (to_be_bytes w32 n) else None) 4
    go true = there (to_be_bytes w32 n)
    go false = nothing 4

near : (labels : List Label) (at : ℕ) (name : List ℕ) → Sized (distance_bytes w16 labels at name) 2
near labels at name = go (distance labels at name)
  where
    go : (o : Option ℤ) → Sized (option_and_then (signed_bytes w16) o) 2
    go None = nothing 2
    go (Some n) = signed_two n

far : (labels : List Label) (at : ℕ) (name : List ℕ) → Sized (distance_bytes w32 labels at name) 4
far labels at name = go (distance labels at name)
  where
    go : (o : Option ℤ) → Sized (option_and_then (signed_bytes w32) o) 4
    go None = nothing 4
    go (Some n) = signed_four n

-- ---- switches

zeros_many : (n : ℕ) → n ≤ 3 → length (zeros n) ≡ n
unfolding zeros
zeros_many zero le = refl
zeros_many (suc zero) le = refl
zeros_many (suc (suc zero)) le = refl
zeros_many (suc (suc (suc zero))) le = refl
zeros_many (suc (suc (suc (suc n)))) le = absurd (omega arith)

targets_many : (labels : List Label) (at : ℕ) (ts : List (List ℕ)) → Sized (table_bytes labels at ts) (4 * length ts)
unfolding table_bytes
targets_many labels at [] = there []
targets_many labels at (t ∷ ts) =
    as_many (joined (distance_bytes w32 labels at t) (table_bytes labels at ts)) (4 + 4 * length ts) (4 * length (t ∷ ts)) (omega arith)
    (both (distance_bytes w32 labels at t) (table_bytes labels at ts) 4 (4 * length ts) (far labels at t) (targets_many labels at ts))

case_many : (labels : List Label) (at : ℕ) (c : ListedCase) → Sized (case_bytes labels at c) 8
case_many labels at c = both (Some (to_be_bytes w32 (cast_unsigned w32 c.key))) (distance_bytes w32 labels at c.target) 4 4 (there (to_be_bytes w32 (cast_unsigned w32 c.key))) (far labels at c.target)

cases_many : (labels : List Label) (at : ℕ) (cs : List ListedCase) → Sized (lookup_bytes labels at cs) (8 * length cs)
unfolding lookup_bytes
cases_many labels at [] = there []
cases_many labels at (c ∷ cs) =
    as_many (joined (case_bytes labels at c) (lookup_bytes labels at cs)) (8 + 8 * length cs) (8 * length (c ∷ cs)) (omega arith)
    (both (case_bytes labels at c) (lookup_bytes labels at cs) 8 (8 * length cs) (case_many labels at c) (cases_many labels at cs))

front_many : (op at : ℕ) → Sized (Some (op ∷ zeros (padding at))) (1 + padding at)
front_many op at =
    let few : padding at ≤ 3 = omega arith in
    as_many (Some (op ∷ zeros (padding at))) (length (op ∷ zeros (padding at))) (1 + padding at) (omega (arith, zeros_many (padding at) few)) (there (op ∷ zeros (padding at)))

switch_many : (op : ℕ) (labels : List Label) (at : ℕ) (default : List ℕ) (rest : Option (List ℕ)) (n : ℕ) → Sized rest n → Sized (switch_bytes op labels at default rest) (1 + padding at + (4 + n))
switch_many op labels at default rest n s =
    both (Some (op ∷ zeros (padding at))) (joined (distance_bytes w32 labels at default) rest) (1 + padding at) (4 + n) (front_many op at)
    (both (distance_bytes w32 labels at default) rest 4 n (far labels at default) s)

keys_many : (t : ListedTable) → Sized (keys_bytes t) 8
keys_many t = both (signed_bytes w32 t.low) (signed_bytes w32 (high_of t)) 4 4 (signed_four t.low) (signed_four (high_of t))

-- ---- instructions

load_many : (b : Bool) (cs : List Constant) (c : Constant) → Sized (Some (if b then 0x12 ∷ place_of cs c ∷ [] else 0x13 ∷ [] ++ place_bytes cs c)) (if b then 2 else 3)
load_many true cs c = there (0x12 ∷ place_of cs c ∷ [])
load_many false cs c = there (0x13 ∷ [] ++ place_bytes cs c)

pub step_many : (cs : List Constant) (labels : List Label) (at : ℕ) (s : Step) → Sized (step_bytes cs labels at s) (size_of_step cs at s)
unfolding step_bytes
step_many cs labels at (step.Fixed bytes) = there bytes
step_many cs labels at (step.Jump op label) = both (Some (op ∷ [])) (distance_bytes w16 labels at label) 1 2 (there (op ∷ [])) (near labels at label)
step_many cs labels at (step.FarJump op label) = both (Some (op ∷ [])) (distance_bytes w32 labels at label) 1 4 (there (op ∷ [])) (far labels at label)
step_many cs labels at (step.Table t) =
    let rest = joined (keys_bytes t) (table_bytes labels at t.targets) in
    as_many (switch_bytes 0xAA labels at t.default rest) (1 + padding at + (4 + (8 + 4 * length t.targets))) (13 + padding at + 4 * length t.targets) (omega arith)
    (switch_many 0xAA labels at t.default rest (8 + 4 * length t.targets) (both (keys_bytes t) (table_bytes labels at t.targets) 8 (4 * length t.targets) (keys_many t) (targets_many labels at t.targets)))
step_many cs labels at (step.Lookup t) =
    let rest = joined (four_bytes (length t.cases)) (lookup_bytes labels at t.cases) in
    as_many (switch_bytes 0xAB labels at t.default rest) (1 + padding at + (4 + (4 + 8 * length t.cases))) (9 + padding at + 8 * length t.cases) (omega arith)
    (switch_many 0xAB labels at t.default rest (4 + 8 * length t.cases) (both (four_bytes (length t.cases)) (lookup_bytes labels at t.cases) 4 (8 * length t.cases) (count_four (length t.cases)) (cases_many labels at t.cases)))
step_many cs labels at (step.Use u) =
    let bytes = u.op ∷ [] ++ place_bytes cs u.constant ++ u.rest in
    as_many (Some bytes) (length bytes) (3 + length u.rest) (omega (arith, length-append (u.op ∷ [] ++ place_bytes cs u.constant) u.rest)) (there bytes)
step_many cs labels at (step.Load c) = load_many (nat_le (place_of cs c) 255) cs c

-- The instructions of bytes, one after another.
use Rattle.std.proofs.Common.{◌≡◌, ◌≢◌, ℕ, zero, suc, ◌+◌, ◌-◌, List, [], ◌∷◌, ◌++◌, Option, Some, None, ◌<◌, ◌≤◌, length, drop, refl, sym, ap, ◌∙◌, append_assoc, arith}
use Rattle.std.proofs.lemmas.List.{append-nil, drop-drop, drop_all, length-drop}
use Rattle.std.specs.Prelude.{option_map, option_and_then}
use Rattle.wf_first.specs.declared.code.Operation.{Operation}
use Rattle.wf_first.specs.declared.code.Operation.TheVariants.{IntConstant, InvokeStatic, IntReturn, Return}
use Rattle.wf_first.specs.declared.code.Placed.{Placed}
use Rattle.wf_first.specs.Code.{operation_in, size_of, placed_before, operations_from}

-- bytes that still belong to an instruction are passed over
skipped : (n pc : ℕ) (bytes : List ℕ) → operations_from n pc bytes ≡ operations_from 0 (pc + n) (drop n bytes)
unfolding operations_from
skipped zero pc bytes = ap (λ k. operations_from 0 k bytes) (omega arith)
skipped (suc n) pc [] = refl
skipped (suc n) pc (b ∷ bytes) = skipped n (pc + 1) bytes ∙ ap (λ k. operations_from 0 k (drop n bytes)) (omega arith)

-- the bytes of an instruction, and what follows it
pub first_then : (pc : ℕ) (bytes : List ℕ) (o : Operation) → operation_in bytes ≡ Some o → operations_from 0 pc bytes ≡ option_map (placed_before pc o) (operations_from 0 (pc + size_of o) (drop (size_of o) bytes))
unfolding operations_from
first_then pc [] o e = absurd cc
first_then pc (b ∷ bytes) o e = ap (λ r. option_and_then (λ p. option_map (placed_before pc p) (operations_from (size_of p - 1) (pc + 1) bytes)) r) e ∙ ap (option_map (placed_before pc o)) (behind o)
  where
    behind : (o : Operation) → operations_from (size_of o - 1) (pc + 1) bytes ≡ operations_from 0 (pc + size_of o) (drop (size_of o) (b ∷ bytes))
    behind (IntConstant c) = refl
    behind (InvokeStatic place) = skipped 2 (pc + 1) bytes ∙ ap (λ k. operations_from 0 k (drop 2 bytes)) (omega arith)
    behind IntReturn = refl
    behind Return = refl

-- bytes that are no instruction
none_first : (pc : ℕ) (bytes : List ℕ) → length bytes ≢ 0 → operation_in bytes ≡ None → operations_from 0 pc bytes ≡ None
unfolding operations_from
none_first pc [] some e = absurd (some refl)
none_first pc (b ∷ bytes) some e = ap (λ r. option_and_then (λ p. option_map (placed_before pc p) (operations_from (size_of p - 1) (pc + 1) bytes)) r) e

-- what was found before, and what is still found
abbrev pub with_found : List Placed → Option (List Placed) → Option (List Placed)
with_found found more = option_map (λ (rest : List Placed). found ++ rest) more

-- a loop over the instructions goes on
pub goes_on : (found : List Placed) (pc : ℕ) (code : List ℕ) (o : Operation) (total : Option (List Placed)) → operation_in (drop pc code) ≡ Some o
    → with_found found (operations_from 0 pc (drop pc code)) ≡ total → with_found (found ++ record { pc = pc; operation = o } ∷ []) (operations_from 0 (pc + size_of o) (drop (pc + size_of o) code)) ≡ total
goes_on found pc code o total e so_far =
    ap (λ (bytes : List ℕ). with_found (found ++ record { pc = pc; operation = o } ∷ []) (operations_from 0 (pc + size_of o) bytes)) (sym (drop-drop (size_of o) pc code))
    ∙ go (operations_from 0 (pc + size_of o) (drop (size_of o) (drop pc code)))
    ∙ ap (with_found found) (sym (first_then pc (drop pc code) o e)) ∙ so_far
  where
    go : (r : Option (List Placed)) → with_found (found ++ record { pc = pc; operation = o } ∷ []) r ≡ with_found found (option_map (placed_before pc o) r)
    go (Some more) = ap Some (append_assoc found (record { pc = pc; operation = o } ∷ []) more)
    go None = refl

-- it stops where no instruction is
pub stops : (found : List Placed) (pc : ℕ) (code : List ℕ) (total : Option (List Placed)) → pc < length code → operation_in (drop pc code) ≡ None
    → with_found found (operations_from 0 pc (drop pc code)) ≡ total → total ≡ None
stops found pc code total lt e so_far = sym so_far ∙ ap (with_found found) (none_first pc (drop pc code) (λ z. omega (arith, simp length-drop at z)) e)

-- and it ends
pub ends : (found : List Placed) (pc : ℕ) (code : List ℕ) (total : Option (List Placed)) → length code ≤ pc
    → with_found found (operations_from 0 pc (drop pc code)) ≡ total → total ≡ Some found
unfolding operations_from
ends found pc code total le so_far = sym so_far ∙ ap (λ (bytes : List ℕ). with_found found (operations_from 0 pc bytes)) (drop_all pc code le) ∙ ap Some (append-nil found)

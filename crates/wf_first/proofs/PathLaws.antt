-- What stands at a place of a code, and how its instructions follow one another.
use Rattle.std.proofs.Common.{◌≡◌, ℕ, zero, suc, ◌+◌, ◌-◌, ◌*◌, ◌≤◌, pos, ◌-ℤ◌, Bool, true, false, cond, ◌&&◌, eqb, leb, nat_lt, List, [], ◌∷◌, Option, Some, None, length, drop, slice_get, refl, sym, ap, ap₂, subst, ◌∙◌, arith}
use Rattle.std.specs.Prelude.{option_map, option_and_then}
use Rattle.std.proofs.lemmas.Bool.{eqb-true, leb-true, le-leb, ne_eqb}
use Rattle.std.proofs.lemmas.List.{drop-drop}
use Rattle.wf_first.specs.declared.code.Operation.{Operation}
use Rattle.wf_first.specs.declared.code.Operation.TheVariants.{IntConstant, InvokeStatic, IntReturn, Return}
use Rattle.wf_first.specs.declared.code.Placed.{Placed}
use Rattle.wf_first.specs.Code.{narrow, invoke_static, operation_in, size_of, placed_before, operations_from, operations}
use Rattle.wf_sys.specs.Program.{HasOpcode, operand_at, IsIntConstant, int_return_opcode, return_opcode, invoke_static_opcode}
use Rattle.wf_first.proofs.CodeLaws.{first_then}
use Rattle.wf_first.proofs.ListLaws.{and_both}

-- ---- what stands at a place

-- the bytes of an instruction stand at a place
abbrev pub Stands : List ℕ → ℕ → Operation → Type 0
Stands code pc (IntConstant c) = IsIntConstant code pc c
Stands code pc (InvokeStatic place) = HasOpcode code pc invoke_static_opcode × (operand_at code pc ≡ Some place)
Stands code pc IntReturn = HasOpcode code pc int_return_opcode
Stands code pc Return = HasOpcode code pc return_opcode

narrow_stands : (b : ℕ) (bytes : List ℕ) (o : Operation) → narrow b ≡ Some o → Stands (b ∷ bytes) 0 o
narrow_stands b bytes o e = constant (leb 2 b && leb b 8) refl e
  where
    last : (t : Bool) → eqb b 177 ≡ t → cond t (Some Return) None ≡ Some o → Stands (b ∷ bytes) 0 o
    last true is e =
        let same : Return ≡ o = cc in
        subst (λ (p : Operation). Stands (b ∷ bytes) 0 p) same (ap Some (eqb-true b 177 is))
    last false is e = absurd cc

    middle : (t : Bool) → eqb b 172 ≡ t → cond t (Some IntReturn) (cond (eqb b 177) (Some Return) None) ≡ Some o → Stands (b ∷ bytes) 0 o
    middle true is e =
        let same : IntReturn ≡ o = cc in
        subst (λ (p : Operation). Stands (b ∷ bytes) 0 p) same (ap Some (eqb-true b 172 is))
    middle false is e = last (eqb b 177) refl e

    constant : (t : Bool) → (leb 2 b && leb b 8) ≡ t → cond t (Some (IntConstant (pos b -ℤ pos 3))) (cond (eqb b 172) (Some IntReturn) (cond (eqb b 177) (Some Return) None)) ≡ Some o → Stands (b ∷ bytes) 0 o
    constant true is e =
        let same : IntConstant (pos b -ℤ pos 3) ≡ o = cc in
        let both = and_both (leb 2 b) (leb b 8) is in
        subst (λ (p : Operation). Stands (b ∷ bytes) 0 p) same record { opcode = b; there = refl; least = leb-true 2 b both.0; greatest = leb-true b 8 both.1; is = refl }
    constant false is e = middle (eqb b 172) refl e

invoke_stands : (b : ℕ) (bytes : List ℕ) (o : Operation) → b ≡ 184 → invoke_static bytes ≡ Some o → Stands (b ∷ bytes) 0 o
invoke_stands b [] o is e = absurd cc
invoke_stands b (high ∷ []) o is e = absurd cc
invoke_stands b (high ∷ low ∷ rest) o is e =
    let same : InvokeStatic (256 * high + low) ≡ o = cc in
    subst (λ (p : Operation). Stands (b ∷ high ∷ low ∷ rest) 0 p) same (ap Some is, refl)

first_stands : (bytes : List ℕ) (o : Operation) → operation_in bytes ≡ Some o → Stands bytes 0 o
first_stands [] o e = absurd cc
first_stands (b ∷ bytes) o e = go (eqb b 184) refl e
  where
    go : (t : Bool) → eqb b 184 ≡ t → cond t (invoke_static bytes) (narrow b) ≡ Some o → Stands (b ∷ bytes) 0 o
    go true is e = invoke_stands b bytes o (eqb-true b 184 is) e
    go false is e = narrow_stands b bytes o e

-- and the other way round
stands_first : (bytes : List ℕ) (o : Operation) → Stands bytes 0 o → operation_in bytes ≡ Some o
stands_first [] (IntConstant c) h =
    let there : slice_get {X = ℕ} [] 0 ≡ Some h.opcode = h.there in
    absurd cc
stands_first [] (InvokeStatic place) h =
    let there : slice_get {X = ℕ} [] 0 ≡ Some 184 = h.0 in
    absurd cc
stands_first [] IntReturn h = absurd cc
stands_first [] Return h = absurd cc
stands_first (b ∷ bytes) (IntConstant c) h =
    let same : b ≡ h.opcode = cc in
    let least : 2 ≤ b = omega (arith, h.least, same) in
    let greatest : b ≤ 8 = omega (arith, h.greatest, same) in
    let is : c ≡ pos b -ℤ pos 3 = h.is ∙ ap (λ (k : ℕ). pos k -ℤ pos 3) (sym same) in
    rw (ne_eqb b 184 (λ e. omega (arith, e, greatest)), le-leb 2 b least, le-leb b 8 greatest) (ap (λ v. Some (IntConstant v)) (sym is))
stands_first (b ∷ bytes) (InvokeStatic place) h = go bytes h.1
  where
    is : b ≡ 184
    is = cc

    go : (bytes : List ℕ) → operand_at (b ∷ bytes) 0 ≡ Some place → operation_in (b ∷ bytes) ≡ Some (InvokeStatic place)
    go [] e = absurd cc
    go (high ∷ []) e = absurd cc
    go (high ∷ low ∷ rest) e =
        let same : 256 * high + low ≡ place = cc in
        rw is (ap (λ k. Some (InvokeStatic k)) same)
stands_first (b ∷ bytes) IntReturn h =
    let same : b ≡ 172 = cc in
    rw same refl
stands_first (b ∷ bytes) Return h =
    let same : b ≡ 177 = cc in
    rw same refl

-- a place of a code is the first of the bytes from there on
get_from : (code : List ℕ) (pc i : ℕ) → slice_get (drop pc code) i ≡ slice_get code (pc + i)
get_from code zero i = ap (slice_get code) (omega arith)
get_from [] (suc pc) i = refl
get_from (b ∷ code) (suc pc) i =
    let e : suc pc + i ≡ suc (pc + i) = omega arith in
    rw e (get_from code pc i)

opcode_from : (code : List ℕ) (pc : ℕ) → slice_get (drop pc code) 0 ≡ slice_get code pc
opcode_from code pc = get_from code pc 0 ∙ ap (slice_get code) (omega arith)

operand_from : (code : List ℕ) (pc : ℕ) → operand_at (drop pc code) 0 ≡ operand_at code pc
operand_from code pc = ap₂ (λ (high low : Option ℕ). option_and_then (λ h. option_map (λ l. 256 * h + l) low) high) (get_from code pc 1) (get_from code pc 2)

pub what_stands : (code : List ℕ) (pc : ℕ) (o : Operation) → operation_in (drop pc code) ≡ Some o → Stands code pc o
what_stands code pc o e = go o (first_stands (drop pc code) o e)
  where
    go : (o : Operation) → Stands (drop pc code) 0 o → Stands code pc o
    go (IntConstant c) h = record { opcode = h.opcode; there = sym (opcode_from code pc) ∙ h.there; least = h.least; greatest = h.greatest; is = h.is }
    go (InvokeStatic place) h = (sym (opcode_from code pc) ∙ h.0, sym (operand_from code pc) ∙ h.1)
    go IntReturn h = sym (opcode_from code pc) ∙ h
    go Return h = sym (opcode_from code pc) ∙ h

pub what_begins : (code : List ℕ) (pc : ℕ) (o : Operation) → Stands code pc o → operation_in (drop pc code) ≡ Some o
what_begins code pc o h = stands_first (drop pc code) o (go o h)
  where
    go : (o : Operation) → Stands code pc o → Stands (drop pc code) 0 o
    go (IntConstant c) h = record { opcode = h.opcode; there = opcode_from code pc ∙ h.there; least = h.least; greatest = h.greatest; is = h.is }
    go (InvokeStatic place) h = (opcode_from code pc ∙ h.0, operand_from code pc ∙ h.1)
    go IntReturn h = opcode_from code pc ∙ h
    go Return h = opcode_from code pc ∙ h

-- ---- one instruction after another

-- what is found of bytes that begin with an instruction, or with none
with_first : ℕ → List ℕ → Option Operation → Option (List Placed)
with_first pc bytes first = option_and_then (λ p. option_map (placed_before pc p) (operations_from (size_of p - 1) (pc + 1) bytes)) first

-- where one is found, the bytes begin with one
begins_with_some : (pc : ℕ) (bytes : List ℕ) (o : Placed) (os : List Placed) → operations_from 0 pc bytes ≡ Some (o ∷ os) → (p : Operation) × (operation_in bytes ≡ Some p)
unfolding operations_from with_first
begins_with_some pc [] o os e = absurd cc
begins_with_some pc (b ∷ bytes) o os e = go (operation_in (b ∷ bytes)) refl e
  where
    go : (r : Option Operation) → operation_in (b ∷ bytes) ≡ r → with_first pc bytes r ≡ Some (o ∷ os) → (p : Operation) × (operation_in (b ∷ bytes) ≡ Some p)
    go (Some p) is e = (p, is)
    go None is e = absurd cc

-- the instructions from a place on are that of the place, and those behind it
pub record Behind (code : List ℕ) (pc : ℕ) (o : Operation) (os : List Placed) : Type 0 where
  pub rest : List Placed
  pub found : operations_from 0 (pc + size_of o) (drop (pc + size_of o) code) ≡ Some rest
  pub is : os ≡ record { pc = pc; operation = o } ∷ rest

pub goes_on : (code : List ℕ) (pc : ℕ) (o : Operation) (os : List Placed) → operation_in (drop pc code) ≡ Some o → operations_from 0 pc (drop pc code) ≡ Some os → Behind code pc o os
goes_on code pc o os e found = go (operations_from 0 (pc + size_of o) (drop (size_of o) (drop pc code))) refl (sym (first_then pc (drop pc code) o e) ∙ found)
  where
    go : (r : Option (List Placed)) → operations_from 0 (pc + size_of o) (drop (size_of o) (drop pc code)) ≡ r → option_map (placed_before pc o) r ≡ Some os → Behind code pc o os
    go (Some rest) is e = record {
      rest = rest;
      found = ap (operations_from 0 (pc + size_of o)) (sym (drop-drop (size_of o) pc code)) ∙ is;
      is = cc;
    }
    go None is e = absurd cc

-- the first of them, and those behind it
pub record First (code : List ℕ) (pc : ℕ) (o : Placed) (os : List Placed) : Type 0 where
  pub at : o.pc ≡ pc
  pub begins : operation_in (drop pc code) ≡ Some o.operation
  pub found : operations_from 0 (pc + size_of o.operation) (drop (pc + size_of o.operation) code) ≡ Some os

pub first_found : (code : List ℕ) (pc : ℕ) (o : Placed) (os : List Placed) → operations_from 0 pc (drop pc code) ≡ Some (o ∷ os) → First code pc o os
first_found code pc o os found =
    let b = begins_with_some pc (drop pc code) o os found in
    let h = goes_on code pc b.0 (o ∷ os) b.1 found in
    let first : record { pc = pc; operation = b.0 } ≡ o = sym (first_is h.is) in
    let behind : h.rest ≡ os = sym (rest_is h.is) in
    record {
      at = sym (ap (λ (p : Placed). p.pc) first);
      begins = b.1 ∙ ap (λ (p : Placed). Some p.operation) first;
      found = subst (λ (p : Operation). operations_from 0 (pc + size_of p) (drop (pc + size_of p) code) ≡ Some os) (ap (λ (p : Placed). p.operation) first) (h.found ∙ ap Some behind);
    }
  where
    first_is : {p : Placed} {ps : List Placed} → o ∷ os ≡ p ∷ ps → o ≡ p
    first_is e = cc

    rest_is : {p : Placed} {ps : List Placed} → o ∷ os ≡ p ∷ ps → os ≡ ps
    rest_is e = cc

-- the instructions of a code are those from its first place on
pub from_first : (code : List ℕ) (all : List Placed) → operations code ≡ Some all → operations_from 0 0 code ≡ Some all
from_first code all e = go (nat_lt 65535 (length code)) e
  where
    go : (t : Bool) → cond t None (operations_from 0 0 code) ≡ Some all → operations_from 0 0 code ≡ Some all
    go true e = absurd cc
    go false e = e

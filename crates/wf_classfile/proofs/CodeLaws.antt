-- Attributes of a method are read one after the other, and of what they give only the codes are kept.
use Rattle.std.proofs.Common.{◌≡◌, ℕ, suc, ◌-◌, ◌+◌, ◌≤◌, ◌<◌, Bool, true, false, List, [], ◌∷◌, Option, Some, None, Result, Ok, Err, refl, sym, ap, subst, ◌∙◌, arith}
use Rattle.std.specs.List.{filter_map}
use Rattle.wf_data.specs.declared.class_info.CodeInfo.{CodeInfo}
use Rattle.wf_bytes.specs.Place.{Place}
use Rattle.wf_bytes.specs.Reading.{Fault, Reader, ◌>>=◌, bad, many}
use Rattle.wf_constpool.specs.declared.fault.ClassFault.{ClassFault}
use Rattle.wf_constpool.specs.declared.fault.ClassFault.TheVariants.{Bad, NoMemory}
use Rattle.wf_constpool.specs.Readers.{Fails}
use Rattle.wf_constpool.proofs.Loops.{bind_fails}
use Rattle.wf_grammar.specs.ClassFile.{only_code}
use Rattle.wf_classfile.specs.declared.codes.Codes.{Codes}
use Rattle.wf_classfile.specs.declared.codes.Codes.TheVariants.{Missing, Single, Several}
use Rattle.wf_classfile.specs.OnlyCode.{and_attribute, and_attributes, only_of, with_codes, IsOnly}

-- ---- the loop

regroup : {S : Type 0} (codes : Codes) (a : Option CodeInfo) (read : Result (List (Option CodeInfo) × S) Fault) → with_codes codes (read >>= λ xs. Ok (a ∷ xs.0, xs.1)) ≡ with_codes (and_attribute codes a) read
regroup codes a (Ok xs) = refl
regroup codes a (Err e) = refl

pub goes_on : (r : Reader (Option CodeInfo)) (codes : Codes) (count i : ℕ) (p : Place) (a : Option CodeInfo) (q : Place) (total : Result (Codes × Place) Fault) → i < count → r p ≡ Ok (a, q)
    → with_codes codes (many r (count - i) p) ≡ total → with_codes (and_attribute codes a) (many r (count - (i + 1)) q) ≡ total
unfolding many
goes_on r codes count i p a q total lt h so_far =
    let k : count - i ≡ suc (count - (i + 1)) = omega arith in
    let one : with_codes codes (many r (count - i) p) ≡ with_codes (and_attribute codes a) (many r (count - (i + 1)) q) = rw (k, h) (regroup codes a (many r (count - (i + 1)) q)) in
    sym one ∙ so_far

pub ends : (e : ClassFault) (r : Reader (Option CodeInfo)) (codes : Codes) (count i : ℕ) (p : Place) (total : Result (Codes × Place) Fault) → i < count → Fails e (r p)
    → with_codes codes (many r (count - i) p) ≡ total → Fails e total
unfolding many
ends e r codes count i p total lt h so_far =
    let k : count - i ≡ suc (count - (i + 1)) = omega arith in
    let step = bind_fails e (r p) (λ x. many r (count - (i + 1)) x.1 >>= λ xs. Ok (x.0 ∷ xs.0, xs.1)) h in
    let whole = bind_fails e (r p >>= λ x. many r (count - (i + 1)) x.1 >>= λ xs. Ok (x.0 ∷ xs.0, xs.1)) (λ xs. Ok (and_attributes codes xs.0, xs.1)) step in
    subst (λ (t : Result (Codes × Place) Fault). Fails e t) so_far (rw k whole)

pub is_done : (r : Reader (Option CodeInfo)) (codes : Codes) (count i : ℕ) (p : Place) (total : Result (Codes × Place) Fault) → count ≤ i → with_codes codes (many r (count - i) p) ≡ total → total ≡ Ok (codes, p)
unfolding many
is_done r codes count i p total le so_far =
    let k : count - i ≡ 0 = omega arith in
    let one : with_codes codes (many r (count - i) p) ≡ Ok (codes, p) = rw k refl in
    sym so_far ∙ one

-- ---- what the codes leave

of_several : (without : Bool) (c d : CodeInfo) (attributes : List (Option CodeInfo)) (rest : List CodeInfo) → only_of without (and_attributes Several attributes) ≡ only_code without (c ∷ d ∷ rest)
of_several true c d [] rest = refl
of_several false c d [] rest = refl
of_several without c d (None ∷ attributes) rest = of_several without c d attributes rest
of_several without c d (Some e ∷ attributes) rest = of_several without c d attributes rest

of_single : (without : Bool) (c : CodeInfo) (attributes : List (Option CodeInfo)) → only_of without (and_attributes (Single c) attributes) ≡ only_code without (c ∷ filter_map (λ a. a) attributes)
of_single true c [] = refl
of_single false c [] = refl
of_single without c (None ∷ attributes) = of_single without c attributes
of_single without c (Some d ∷ attributes) = of_several without c d attributes (filter_map (λ a. a) attributes)

of_missing : (without : Bool) (attributes : List (Option CodeInfo)) → only_of without (and_attributes Missing attributes) ≡ only_code without (filter_map (λ a. a) attributes)
of_missing true [] = refl
of_missing false [] = refl
of_missing without (None ∷ attributes) = of_missing without attributes
of_missing without (Some c ∷ attributes) = of_single without c attributes

abbrev done : {X S : Type 0} → X → S → Result (X × S) Fault
done x s = Ok (x, s)

codes_then : {S : Type 0} (codes codes' : Codes) (s s' : S) → done codes s ≡ done codes' s' → (codes ≡ codes') × (s ≡ s')
codes_then {S = S} codes codes' s s' e = let p : (codes, s) ≡ (codes', s') = cc in (ap (λ (x : Codes × S). x.0) p, ap (λ (x : Codes × S). x.1) p)

pub leave : {S : Type 0} (without : Bool) (new : S) (codes : Codes) (code : Option (Option CodeInfo)) (read : Result (List (Option CodeInfo) × S) Fault) → with_codes Missing read ≡ Ok (codes, new) → code ≡ only_of without codes → IsOnly without new code read
leave {S = S} without new codes code (Ok x) e is =
    let both = codes_then (and_attributes Missing x.0) codes x.1 new e in
    record {
      attributes = x.0;
      read_as = ap (λ (s : S). done x.0 s) both.1;
      only = is ∙ ap (only_of without) (sym both.0) ∙ of_missing without x.0;
    }
leave without new codes code (Err f) e is = absurd cc

abbrev failed : {X : Type 0} → Fault → Result X Fault
failed f = Err f

same_fault : {X : Type 0} (f g : Fault) → failed {X = X} f ≡ failed g → f ≡ g
same_fault f g e = cc

pub fail : {S : Type 0} (e : ClassFault) (read : Result (List (Option CodeInfo) × S) Fault) → Fails e (with_codes Missing read) → Fails e read
fail NoMemory read h = tt
fail (Bad offset why) (Ok x) h = absurd cc
fail {S = S} (Bad offset why) (Err f) h = ap (λ (g : Fault). failed {X = List (Option CodeInfo) × S} g) (same_fault {X = Codes × S} f (bad offset why) h)

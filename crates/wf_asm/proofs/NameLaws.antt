-- Generated classes have names of their own.
use Rattle.std.proofs.Common.{◌≡◌, ◌≢◌, ℕ, zero, suc, ◌+◌, ◌-◌, ◌<◌, ◌≤◌, ◌^◌, Bool, true, false, if◌then◌else◌, nat_le, List, [], ◌∷◌, length, get_or, Result, Ok, Err, decimal, refl, ap, ◌∙◌, arith}
use Rattle.std.proofs.lemmas.Fmt.{decimal_injective}
use Rattle.wf_names.specs.Names.{object_name}
use Rattle.wf_data.specs.declared.class_info.ClassInfo.{ClassInfo}
use Rattle.wf_data.specs.declared.class_info.MethodInfo.{MethodInfo}
use Rattle.wf_listing.specs.declared.listing.Listed.{Listed}
use Rattle.wf_asm.specs.Constants.{constants_of}
use Rattle.wf_asm.specs.Building.{◌>>=◌, methods_of, class_with, class_of, classes_of}
use Rattle.wf_asm.specs.Generating.{class_name, class_at, object_class, generated_class, generated_from, generated, state_behind, NoneIsNamed, HaveOwnNames, IsProgramOf}

-- a class is made of the methods that its listing says
pub record IsMade (c : Listed) (k : ClassInfo) : Type 0 where
  pub methods : List MethodInfo
  pub few : nat_le (length (constants_of c)) 65534 ≡ true
  pub made : methods_of (constants_of c) c.methods ≡ Ok methods
  pub is : k ≡ class_with c (constants_of c) methods

pub class_made : (c : Listed) (k : ClassInfo) → class_of c ≡ Ok k → IsMade c k
unfolding class_of
class_made c k h = go (nat_le (length (constants_of c)) 65534) refl (methods_of (constants_of c) c.methods) refl h
  where
    go : (b : Bool) → nat_le (length (constants_of c)) 65534 ≡ b → (r : Result (List MethodInfo) ℕ) → methods_of (constants_of c) c.methods ≡ r
        → (if b then (r >>= λ methods. Ok (class_with c (constants_of c) methods)) else Err c.line) ≡ Ok k → IsMade c k
    go true few (Ok methods) made e = record { methods = methods; few = few; made = made; is = cc }
    go true few (Err line) made e = cc
    go false few r made e = cc

name_is : (c : Listed) (cs : List _) (methods : List MethodInfo) → (class_with c cs methods).name ≡ c.name
unfolding class_with
name_is c cs methods = refl

pub class_named : (c : Listed) (k : ClassInfo) → class_of c ≡ Ok k → k.name ≡ c.name
class_named c k h =
    let made = class_made c k h in
    ap (λ (x : ClassInfo). x.name) made.is ∙ name_is c (constants_of c) made.methods

class_at_named : (size i s : ℕ) → (class_at size i s).name ≡ class_name i
unfolding class_at generated_class
class_at_named size i s = refl

object_named : object_class.name ≡ object_name
unfolding object_class
object_named = refl

-- the first class and the others
pub record Parts (c : Listed) (rest : List Listed) (ks : List ClassInfo) : Type 0 where
  pub first : ClassInfo
  pub others : List ClassInfo
  pub is : ks ≡ first ∷ others
  pub here : class_of c ≡ Ok first
  pub behind : classes_of rest ≡ Ok others

pub parts : (c : Listed) (rest : List Listed) (ks : List ClassInfo) → classes_of (c ∷ rest) ≡ Ok ks → Parts c rest ks
unfolding classes_of
parts c rest ks h = go (class_of c) refl (classes_of rest) refl h
  where
    go : (r : Result ClassInfo ℕ) → class_of c ≡ r → (q : Result (List ClassInfo) ℕ) → classes_of rest ≡ q → (r >>= λ class. q >>= λ classes. Ok (class ∷ classes)) ≡ Ok ks → Parts c rest ks
    go (Ok k) one (Ok all) more e = record { first = k; others = all; is = cc; here = one; behind = more }
    go (Ok k) one (Err line) more e = cc
    go (Err line) one q more e = cc

pub no_parts : (ks : List ClassInfo) → classes_of [] ≡ Ok ks → ks ≡ []
unfolding classes_of
no_parts ks h = cc

from_none : (size i s : ℕ) → generated_from size i zero s ≡ []
unfolding generated_from
from_none size i s = refl

from_more : (size i left s : ℕ) → generated_from size i (suc left) s ≡ class_at size i s ∷ generated_from size (i + 1) left (state_behind s)
unfolding generated_from
from_more size i left s = refl

-- ---- names

apart : (i j : ℕ) → i < j → j < 2 ^ 64 → class_name i ≢ class_name j
apart i j lt fits same =
    let digits : decimal i ≡ decimal j = cc in
    let is : i ≡ j = decimal_injective i j (omega arith) fits digits in
    absurd (omega arith)

not_object : (j : ℕ) → object_name ≢ class_name j
not_object j same =
    let first : get_or object_name 0 0 ≡ get_or (class_name j) 0 0 = ap (λ (bs : List ℕ). get_or bs 0 0) same in
    absurd (omega (arith, first))

none_named : (name : List ℕ) (size i left s : ℕ) (ks : List ClassInfo) → ((j : ℕ) → i ≤ j → j < i + left → name ≢ class_name j) → classes_of (generated_from size i left s) ≡ Ok ks → NoneIsNamed name ks
none_named name size i zero s ks differs h =
    let nil : ks ≡ [] = no_parts ks (rw from_none at h) in
    rw nil tt
none_named name size i (suc left) s ks differs h =
    let p = parts (class_at size i s) (generated_from size (i + 1) left (state_behind s)) ks (rw from_more at h) in
    let named : p.first.name ≡ class_name i = class_named (class_at size i s) p.first p.here ∙ class_at_named size i s in
    rw p.is ((λ same. differs i (omega arith) (omega arith) (same ∙ named)), none_named name size (i + 1) left (state_behind s) p.others (λ j le lt. differs j (omega arith) (omega arith)) p.behind)

names_from : (size i left s : ℕ) (ks : List ClassInfo) → i + left < 2 ^ 64 → classes_of (generated_from size i left s) ≡ Ok ks → HaveOwnNames ks
names_from size i zero s ks fits h =
    let nil : ks ≡ [] = no_parts ks (rw from_none at h) in
    rw nil tt
names_from size i (suc left) s ks fits h =
    let p = parts (class_at size i s) (generated_from size (i + 1) left (state_behind s)) ks (rw from_more at h) in
    let named : p.first.name ≡ class_name i = class_named (class_at size i s) p.first p.here ∙ class_at_named size i s in
    let none : NoneIsNamed (class_name i) p.others = none_named (class_name i) size (i + 1) left (state_behind s) p.others (λ j le lt. apart i j (omega arith) (omega arith)) p.behind in
    rw p.is (rw named none, names_from size (i + 1) left (state_behind s) p.others (omega arith) p.behind)

generated_is : (seed size : ℕ) → generated seed size ≡ object_class ∷ generated_from size 0 size seed
unfolding generated
generated_is seed size = refl

pub own_names : (seed size : ℕ) (ks : List ClassInfo) → size < 2 ^ 32 → IsProgramOf seed size ks → HaveOwnNames ks
own_names seed size ks fits h =
    let p = parts object_class (generated_from size 0 size seed) ks (rw generated_is at h) in
    let named : p.first.name ≡ object_name = class_named object_class p.first p.here ∙ object_named in
    let none : NoneIsNamed object_name p.others = none_named object_name size 0 size seed p.others (λ j le lt. not_object j) p.behind in
    rw p.is (rw named none, names_from size 0 size seed p.others (omega arith) p.behind)

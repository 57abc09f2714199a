-- Methods that are kept as a set.
use Rattle.std.proofs.Common.{◌≡◌, ℕ, ◌+◌, ◌<◌, Bool, true, false, ◌||◌, List, [], ◌∷◌, ◌++◌, map, length, get_or, drop, Option, Some, None, append_assoc, append-nil, refl, sym, ap, subst, ◌∙◌}
use Rattle.std.specs.Prelude.{if◌then◌else◌}
use Rattle.std.specs.List.{list_any, list_all}
use Rattle.std.proofs.lemmas.List.{map-append, at_drop_more}
use Rattle.std.proofs.lemmas.List.Folds.{list_any-append}
use Rattle.wf_data.specs.declared.class_info.ClassInfo.{ClassInfo}
use Rattle.wf_data.specs.declared.class_info.CodeInfo.{CodeInfo}
use Rattle.wf_data.specs.declared.class_info.MethodInfo.{MethodInfo}
use Rattle.wf_data.specs.declared.class_info.PoolEntry.{PoolEntry}
use Rattle.wf_names.specs.declared.member.MemberName.{MemberName}
use Rattle.wf_names.specs.declared.member.MemberRef.{MemberRef}
use Rattle.wf_data.specs.Flags.{is_static}
use Rattle.wf_data.specs.Pool.{method_at}
use Rattle.wf_names.specs.Members.{named_by, same_member}
use Rattle.wf_first.proofs.ListLaws.{any_map}
use Rattle.wf_first.proofs.MemberLists.{member_is}
use Rattle.wf_first.specs.declared.code.Operation.{Operation}
use Rattle.wf_first.specs.declared.code.Operation.TheVariants.{IntConstant, InvokeStatic, IntReturn, Return}
use Rattle.wf_first.specs.declared.code.Placed.{Placed}
use Rattle.wf_first.specs.Code.{operations}
use Rattle.wf_sys.specs.Names.{method_name}
use Rattle.wf_first.specs.Calls.{statics_in, has_member, is_known, calls_known, found_call_known, code_calls_known, class_calls_known}
use Rattle.wf_first.specs.Statics.{HaveSame}

-- the names of a set of keys, with one more
pub names_added : (keys : List MemberRef) (k : MemberRef)
    → map named_by (if list_any (λ e. same_member (named_by k) (named_by e)) keys then keys else keys ++ k ∷ [])
    ≡ (if has_member (map named_by keys) (named_by k) then map named_by keys else map named_by keys ++ named_by k ∷ [])
names_added keys k = rw any_map (go (list_any (λ e. same_member (named_by k) (named_by e)) keys))
  where
    go : (b : Bool) → map named_by (if b then keys else keys ++ k ∷ []) ≡ (if b then map named_by keys else map named_by keys ++ named_by k ∷ [])
    go true = refl
    go false = map-append named_by keys (k ∷ [])

-- ---- sets of names

-- one that is there already
held : (a n : MemberName) (set rest : List MemberName) → has_member set n ≡ true → has_member (set ++ rest) a ≡ has_member (set ++ n ∷ rest) a
held a n set rest there = rw (list_any-append, list_any-append) (go (same_member a n) refl)
  where
    found : (s r : Bool) → s ≡ true → (s || r) ≡ (s || true)
    found true r e = refl
    found false r e = absurd cc

    go : (b : Bool) → same_member a n ≡ b → (has_member set a || has_member rest a) ≡ (has_member set a || (b || has_member rest a))
    go true e = found (has_member set a) (has_member rest a) (subst (λ (m : MemberName). has_member set m ≡ true) (sym (member_is a n e)) there)
    go false e = refl

-- a set with one more name before others
pub with_one : (n : MemberName) (set rest : List MemberName) → HaveSame ((if has_member set n then set else set ++ n ∷ []) ++ rest) (set ++ n ∷ rest)
with_one n set rest = go (has_member set n) refl
  where
    go : (b : Bool) → has_member set n ≡ b → HaveSame ((if b then set else set ++ n ∷ []) ++ rest) (set ++ n ∷ rest)
    go true e = record { same = λ a. held a n set rest e }
    go false e = record { same = λ a. ap (λ (names : List MemberName). has_member names a) (append_assoc set (n ∷ []) rest) }

pub same_steps : (a b c : List MemberName) → HaveSame a b → HaveSame b c → HaveSame a c
same_steps a b c p q = record { same = λ name. p.same name ∙ q.same name }

-- the same names before others
pub same_before : (a b rest : List MemberName) → HaveSame a b → HaveSame (a ++ rest) (b ++ rest)
same_before a b rest p = record { same = λ name. list_any-append _ a rest ∙ ap (λ (there : Bool). there || has_member rest name) (p.same name) ∙ sym (list_any-append _ b rest) }

-- ---- a method of a class

pub static_added : (class : ClassInfo) (m : MethodInfo) (name : MemberName) (set new : List MemberName) → is_static m.flags ≡ true → name ≡ method_name class m
    → new ≡ (if has_member set name then set else set ++ name ∷ []) → HaveSame new (set ++ statics_in class (m ∷ []))
static_added class m name set new static named added = rw (static, ← named, added) (rw (append-nil _) at (with_one name set []))

-- ---- going over a list: the next one's names, and those of the rest

pub gathered_next : {X : Type 0} (f : X → List MemberName) (all : List X → List MemberName) → ((x : X) (xs : List X) → all (x ∷ xs) ≡ f x ++ all xs)
    → (xs : List X) (i : ℕ) (x : X) (set new total : List MemberName) → i < length xs → x ≡ get_or xs i x
    → HaveSame new (set ++ f x) → HaveSame (set ++ all (drop i xs)) total → HaveSame (new ++ all (drop (i + 1) xs)) total
gathered_next f all step xs i x set new total lt is added so_far =
    let rest = all (drop (i + 1) xs) in
    let cut : all (drop i xs) ≡ f x ++ rest = at_drop_more all xs i x lt ∙ ap (λ y. all (y ∷ drop (i + 1) xs)) (sym is) ∙ step x (drop (i + 1) xs) in
    same_steps _ _ _ (same_before new (set ++ f x) rest added)
    (subst (λ (s : List MemberName). HaveSame s total) (ap (λ (s : List MemberName). set ++ s) cut ∙ sym (append_assoc set (f x) rest)) so_far)

pub one_before : (class : ClassInfo) (m : MethodInfo) (methods : List MethodInfo) → statics_in class (m ∷ methods) ≡ statics_in class (m ∷ []) ++ statics_in class methods
one_before class m methods = go (is_static m.flags)
  where
    go : (b : Bool) → (if b then method_name class m ∷ statics_in class methods else statics_in class methods) ≡ (if b then method_name class m ∷ [] else []) ++ statics_in class methods
    go true = refl
    go false = refl

-- ---- calls, by sets that have the same members

callee_same : (a b : List MemberName) (callee : Option MemberName) → HaveSame a b → is_known a callee ≡ is_known b callee
callee_same a b None p = refl
callee_same a b (Some callee) p = p.same callee

call_same : (a b : List MemberName) (pool : List PoolEntry) (o : Placed) → HaveSame a b → calls_known a pool o ≡ calls_known b pool o
call_same a b pool o p = go o.operation
  where
    go : (operation : Operation) → calls_known a pool (record { pc = o.pc; operation = operation }) ≡ calls_known b pool (record { pc = o.pc; operation = operation })
    go (IntConstant c) = refl
    go (InvokeStatic place) = callee_same a b (method_at pool place) p
    go IntReturn = refl
    go Return = refl

all_same : {X : Type 0} (p q : X → Bool) (xs : List X) → ((x : X) → p x ≡ q x) → list_all p xs ≡ list_all q xs
all_same p q [] h = refl
all_same p q (x ∷ xs) h = rw (h x, all_same p q xs h) refl

code_same : (a b : List MemberName) (pool : List PoolEntry) (code : Option CodeInfo) → HaveSame a b → code_calls_known a pool code ≡ code_calls_known b pool code
code_same a b pool None p = refl
code_same a b pool (Some code) p = go (operations code.code)
  where
    go : (found : Option (List Placed)) → found_call_known a pool found ≡ found_call_known b pool found
    go None = refl
    go (Some os) = all_same _ _ os (λ o. call_same a b pool o p)

class_same : (a b : List MemberName) (class : ClassInfo) → HaveSame a b → class_calls_known a class ≡ class_calls_known b class
class_same a b class p = all_same _ _ class.methods (λ m. code_same a b class.pool m.code p)

pub calls_same : (a b : List MemberName) (classes : List ClassInfo) → HaveSame a b → list_all (class_calls_known a) classes ≡ list_all (class_calls_known b) classes
calls_same a b classes p = all_same _ _ classes (λ class. class_same a b class p)

-- The constants that a class has: each that is used is one of them, and its place holds its entry.
use Rattle.std.proofs.Common.{◌≡◌, ℕ, suc, ◌<◌, ◌≤◌, Bool, true, false, ◌||◌, if◌then◌else◌, List, [], ◌∷◌, ◌++◌, map, length, is_some, Option, Some, refl, sym, ap, ◌∙◌, arith, option_and_then, slice_get}
use Rattle.std.specs.List.{AllByRecursion, list_any}
use Rattle.std.specs.Str.{bytes_eq}
use Rattle.std.proofs.lemmas.Bool.{and_parts, or_left, or_right}
use Rattle.std.proofs.lemmas.Bool.Decides.{Decides-int_eq}
use Rattle.std.proofs.lemmas.List.Folds.{list_any-append}
use Rattle.std.proofs.lemmas.Slice.Eq.{bytes_eq-Decides}
use Rattle.wf_data.specs.Pool.{text_in, text_at, class_in, class_at, has_class, has_name_type, name_type_in}
use Rattle.wf_data.specs.declared.class_info.PoolEntry.{PoolEntry}
use Rattle.wf_data.specs.declared.class_info.PoolEntry.TheVariants as entry
use Rattle.wf_names.specs.declared.member.MemberName.{MemberName}
use Rattle.wf_listing.specs.declared.listing.Constant.{Constant}
use Rattle.wf_listing.specs.declared.listing.Constant.TheVariants as constant
use Rattle.wf_names.specs.Members.{same_member}
use Rattle.wf_asm.specs.Constants.{same, with_constant, with_constants, place_of, entry_of, pool_of}
use Rattle.wf_asm.proofs.ConstantLaws.{place_fits}

-- a constant is one of these
pub record IsHeld (cs : List Constant) (c : Constant) : Type 0 where
  pub held : list_any (same c) cs ≡ true

-- ---- what is added is held

same_text : (text : List ℕ) → bytes_eq text text ≡ true
same_text text = (bytes_eq-Decides text text).1 refl

member_self : (m : MemberName) → same_member m m ≡ true
member_self m = rw (same_text m.class, same_text m.name, same_text m.desc) refl

same_self : (c : Constant) → same c c ≡ true
same_self (constant.Text a) = same_text a
same_self (constant.Class a) = same_text a
same_self (constant.Str a) = same_text a
same_self (constant.Int a) = (Decides-int_eq a a).1 refl
same_self (constant.Long a) = (Decides-int_eq a a).1 refl
same_self (constant.Behind a) = (Decides-int_eq a a).1 refl
same_self (constant.NameType a b) = rw (same_text a, same_text b) refl
same_self (constant.Field m) = member_self m
same_self (constant.Method m) = member_self m
same_self (constant.InterfaceMethod m) = member_self m

kept_by_one : (cs : List Constant) (d c : Constant) → IsHeld cs c → IsHeld (with_constant cs d) c
kept_by_one cs d c h = go (list_any (same d) cs)
  where
    go : (b : Bool) → IsHeld (if b then cs else cs ++ d ∷ []) c
    go true = h
    go false = record { held = list_any-append (same c) cs (d ∷ []) ∙ or_left _ _ h.held }

kept : (cs ds : List Constant) (c : Constant) → IsHeld cs c → IsHeld (with_constants cs ds) c
kept cs [] c h = h
kept cs (d ∷ ds) c h = kept (with_constant cs d) ds c (kept_by_one cs d c h)

added : (cs : List Constant) (d : Constant) → IsHeld (with_constant cs d) d
added cs d = go (list_any (same d) cs) refl
  where
    go : (b : Bool) → list_any (same d) cs ≡ b → IsHeld (if b then cs else cs ++ d ∷ []) d
    go true e = record { held = e }
    go false e = record { held = list_any-append (same d) cs (d ∷ []) ∙ or_right _ _ (or_left _ _ (same_self d)) }

pub all_held : (cs ds : List Constant) → AllByRecursion (IsHeld (with_constants cs ds)) ds
all_held cs [] = tt
all_held cs (d ∷ ds) = (kept (with_constant cs d) ds d (added cs d), all_held (with_constant cs d) ds)

-- ---- what each added constant is, each is

each_and_one : (P : Constant → Type 0) (cs : List Constant) (d : Constant) → AllByRecursion P cs → P d → AllByRecursion P (cs ++ d ∷ [])
each_and_one P [] d h p = (p, tt)
each_and_one P (c ∷ cs) d h p = (h.0, each_and_one P cs d h.1 p)

each_with_one : (P : Constant → Type 0) (cs : List Constant) (d : Constant) → AllByRecursion P cs → P d → AllByRecursion P (with_constant cs d)
each_with_one P cs d h p = go (list_any (same d) cs)
  where
    go : (b : Bool) → AllByRecursion P (if b then cs else cs ++ d ∷ [])
    go true = h
    go false = each_and_one P cs d h p

pub each_with : (P : Constant → Type 0) (cs ds : List Constant) → AllByRecursion P cs → AllByRecursion P ds → AllByRecursion P (with_constants cs ds)
each_with P cs [] h ps = h
each_with P cs (d ∷ ds) h ps = each_with P (with_constant cs d) ds (each_with_one P cs d h ps.0) ps.1

-- ---- places

-- a place holds the entry of a constant that is the same
record IsPlaced (entries : List PoolEntry) (f : Constant → PoolEntry) (c : Constant) (n : ℕ) : Type 0 where
  other : Constant
  is : slice_get entries n ≡ Some (f other)
  one : same c other ≡ true

placed : (f : Constant → PoolEntry) (e : PoolEntry) (ds : List Constant) (c : Constant) → list_any (same c) ds ≡ true → IsPlaced (e ∷ map f ds) f c (place_of ds c)
placed f e [] c h = cc
placed f e (d ∷ ds) c h = go (same c d) refl h (λ k. placed f (f d) ds c k)
  where
    go : (b : Bool) → same c d ≡ b → (b || list_any (same c) ds) ≡ true → (list_any (same c) ds ≡ true → IsPlaced (f d ∷ map f ds) f c (place_of ds c)) → IsPlaced (e ∷ f d ∷ map f ds) f c (if b then 1 else suc (place_of ds c))
    go true one h more = record { other = d; is = refl; one = one }
    go false one h more =
        let p = more h in
        record { other = p.other; is = p.is; one = p.one }

text_is : (text : List ℕ) (d : Constant) → same (constant.Text text) d ≡ true → d ≡ constant.Text text
text_is text (constant.Text other) h = ap (λ (t : List ℕ). constant.Text t) (sym ((bytes_eq-Decides text other).0 h))
text_is text d h = cc

class_is : (name : List ℕ) (d : Constant) → same (constant.Class name) d ≡ true → d ≡ constant.Class name
class_is name (constant.Class other) h = ap (λ (t : List ℕ). constant.Class t) (sym ((bytes_eq-Decides name other).0 h))
class_is name d h = cc

name_type_is : (name desc : List ℕ) (d : Constant) → same (constant.NameType name desc) d ≡ true → d ≡ constant.NameType name desc
name_type_is name desc (constant.NameType a b) h =
    let both = and_parts (bytes_eq name a) (bytes_eq desc b) h in
    let one : name ≡ a = (bytes_eq-Decides name a).0 both.0 in
    let two : desc ≡ b = (bytes_eq-Decides desc b).0 both.1 in
    cc
name_type_is name desc d h = cc

-- the entry at the place of a constant, where only the constant itself is the same
found : (cs : List Constant) (c : Constant) → ((d : Constant) → same c d ≡ true → d ≡ c) → IsHeld cs c → slice_get (pool_of cs) (place_of cs c) ≡ Some (entry_of cs c)
found cs c only h =
    let p = placed (entry_of cs) entry.Unusable cs c h.held in
    p.is ∙ ap (λ (d : Constant). Some (entry_of cs d)) (only p.other p.one)

pub text_found : (cs : List Constant) (text : List ℕ) → IsHeld cs (constant.Text text) → text_at (pool_of cs) (place_of cs (constant.Text text)) ≡ Some text
text_found cs text h = ap (option_and_then text_in) (found cs (constant.Text text) (text_is text) h)

pub class_has_place : (cs : List Constant) (name : List ℕ) → IsHeld cs (constant.Class name) → has_class (pool_of cs) (place_of cs (constant.Class name)) ≡ true
class_has_place cs name h = ap (λ (e : Option PoolEntry). is_some (option_and_then class_in e)) (found cs (constant.Class name) (class_is name) h)

pub class_found : (cs : List Constant) (name : List ℕ) → IsHeld cs (constant.Class name) → IsHeld cs (constant.Text name) → class_at (pool_of cs) (place_of cs (constant.Class name)) ≡ Some name
class_found cs name h text =
    ap (λ (e : Option PoolEntry). option_and_then (text_at (pool_of cs)) (option_and_then class_in e)) (found cs (constant.Class name) (class_is name) h) ∙ text_found cs name text

pub name_type_has_place : (cs : List Constant) (name desc : List ℕ) → IsHeld cs (constant.NameType name desc) → has_name_type (pool_of cs) (place_of cs (constant.NameType name desc)) ≡ true
name_type_has_place cs name desc h = ap (λ (e : Option PoolEntry). is_some (option_and_then name_type_in e)) (found cs (constant.NameType name desc) (name_type_is name desc) h)

pub place_small : (cs : List Constant) (c : Constant) → length cs ≤ 65534 → place_of cs c < 65536
place_small cs c few = omega (arith, place_fits cs c)

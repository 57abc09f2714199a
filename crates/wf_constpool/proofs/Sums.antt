-- The bytes that constants take, and where a wrong place stands among them.
use Rattle.std.proofs.Common.{◌≡◌, ℕ, ◌+◌, ◌<◌, ◌≤◌, Bool, true, false, cond, List, [], ◌∷◌, ◌++◌, get_or, length, drop, refl, sym, ap, ◌∙◌, arith}
use Rattle.std.proofs.lemmas.List.{at_drop_more}
use Rattle.wf_data.specs.declared.class_info.PoolEntry.{PoolEntry}
use Rattle.wf_data.specs.declared.class_info.PoolEntry.TheVariants.{Unusable, Utf8, Integer, Float, Long, Double, Class, Str, Field, Method, InterfaceMethod, NameType, Handle, MethodKind, Dynamic}
use Rattle.wf_grammar.specs.ClassFile.{is_sound}
use Rattle.wf_data.specs.Pool.{has_class, has_text}
use Rattle.wf_grammar.specs.Reading.{size_of, wrong_in, wrong_from}
use Rattle.wf_constpool.specs.Sizes.{sizes, constants}

pub sizes_push : (es : List PoolEntry) (e : PoolEntry) → sizes (es ++ e ∷ []) ≡ sizes es + size_of e
sizes_push [] e = omega arith
sizes_push (x ∷ es) e = omega (arith, sizes_push es e)

-- a pool that begins with an unusable place goes on doing so
pub constants_push : (es : List PoolEntry) (e : PoolEntry) → es ≡ Unusable ∷ constants es → constants (es ++ e ∷ []) ≡ constants es ++ e ∷ []
constants_push [] e h = absurd cc
constants_push (x ∷ es) e h = refl

pub still_unusable : (es : List PoolEntry) (e : PoolEntry) → es ≡ Unusable ∷ constants es → es ++ e ∷ [] ≡ Unusable ∷ constants (es ++ e ∷ [])
still_unusable [] e h = absurd cc
still_unusable (x ∷ es) e h = ap (λ (xs : List PoolEntry). xs ++ e ∷ []) h

-- the next constant
pub sizes_drop : (es : List PoolEntry) (i : ℕ) (d : PoolEntry) → i < length es → sizes (drop i es) ≡ size_of (get_or es i d) + sizes (drop (i + 1) es)
sizes_drop es i d lt = at_drop_more sizes es i d lt

three_or_one : (b : Bool) (n : ℕ) → 3 ≤ n → cond b 3 1 ≤ n
three_or_one true n le = le
three_or_one false n le = omega arith

-- a wrong place stands inside its constant
pub wrong_fits : (pool : List PoolEntry) (e : PoolEntry) → is_sound pool e ≡ false → wrong_in pool e ≤ size_of e
wrong_fits pool Unusable h = absurd cc
wrong_fits pool (Utf8 text) h = omega arith
wrong_fits pool (Integer n) h = omega arith
wrong_fits pool (Float bits) h = omega arith
wrong_fits pool (Long n) h = omega arith
wrong_fits pool (Double bits) h = omega arith
wrong_fits pool (Class name) h = omega arith
wrong_fits pool (Str text) h = omega arith
wrong_fits pool (Field class member) h = three_or_one (has_class pool class) 5 (omega arith)
wrong_fits pool (Method class member) h = three_or_one (has_class pool class) 5 (omega arith)
wrong_fits pool (InterfaceMethod class member) h = three_or_one (has_class pool class) 5 (omega arith)
wrong_fits pool (NameType name desc) h = three_or_one (has_text pool name) 5 (omega arith)
wrong_fits pool (Handle kind member) h = omega arith
wrong_fits pool (MethodKind desc) h = omega arith
wrong_fits pool (Dynamic bootstrap member) h = omega arith

-- the loop that looks for it goes on behind a sound constant
pub wrong_goes_on : (pool : List PoolEntry) (at : ℕ) (i : ℕ) (d : PoolEntry) (total : ℕ) → i < length pool → is_sound pool (get_or pool i d) ≡ true
    → wrong_from pool at (drop i pool) ≡ total → wrong_from pool (at + size_of (get_or pool i d)) (drop (i + 1) pool) ≡ total
wrong_goes_on pool at i d total lt sound so_far =
    sym (ap (λ (b : Bool). cond b (wrong_from pool (at + size_of (get_or pool i d)) (drop (i + 1) pool)) (at + wrong_in pool (get_or pool i d))) sound)
    ∙ sym (at_drop_more (wrong_from pool at) pool i d lt) ∙ so_far

-- and stops at one that isn't
pub wrong_stops : (pool : List PoolEntry) (at : ℕ) (i : ℕ) (d : PoolEntry) (total : ℕ) → i < length pool → is_sound pool (get_or pool i d) ≡ false
    → wrong_from pool at (drop i pool) ≡ total → total ≡ at + wrong_in pool (get_or pool i d)
wrong_stops pool at i d total lt unsound so_far =
    sym so_far ∙ at_drop_more (wrong_from pool at) pool i d lt
    ∙ ap (λ (b : Bool). cond b (wrong_from pool (at + size_of (get_or pool i d)) (drop (i + 1) pool)) (at + wrong_in pool (get_or pool i d))) unsound

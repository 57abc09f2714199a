-- Members that were met are told apart by the numbers of their texts.
use Rattle.std.proofs.Common.{◌≡◌, ℕ, Bool, true, false, ◌==◌, cond, List, [], ◌∷◌, ◌++◌, map, Option, Some, refl, sym, ap, subst, ◌∙◌}
use Rattle.std.specs.Prelude.{unwrap_or, IfSome}
use Rattle.std.specs.Cmp.{both_ways}
use Rattle.std.specs.List.{list_any}
use Rattle.std.specs.Str.{bytes_eq}
use Rattle.std.proofs.lemmas.Bool.Decides.{Decides-eqb}
use Rattle.std.proofs.lemmas.List.{map-append}
use Rattle.std.proofs.lemmas.Option.{same_Some}
use Rattle.std.proofs.lemmas.Slice.Eq.{bytes_eq-Decides}
use Rattle.wf_data.specs.declared.class_info.PoolEntry.{PoolEntry}
use Rattle.wf_data.specs.Pool.{text_at}
use Rattle.wf_grammar.specs.ClassFile.{is_key}
use Rattle.wf_classfile.specs.declared.texts.Seen.{Seen}
use Rattle.wf_classfile.specs.InOrder.{same_pair}
use Rattle.wf_classfile.specs.Met.{key_of, AreNumbersOf, AreNumbers}
use Rattle.wf_classfile.specs.Numbers.{number_in, text_there, Grows, Stand}

grown : (pool : List PoolEntry) (old new : List (List ℕ × ℕ)) (met : List (ℕ × ℕ)) → Grows old new → AreNumbers pool old met → AreNumbers pool new met
grown pool old new [] grows h = tt
grown pool old new (p ∷ met) grows h = (record { name = grows.kept _ _ h.0.name; desc = grows.kept _ _ h.0.desc }, grown pool old new met grows h.1)

-- numbers stay as texts are met
pub still_numbers : (pool after : List PoolEntry) (old new : List (List ℕ × ℕ)) (met : List (ℕ × ℕ)) → after ≡ pool → Grows old new → AreNumbers pool old met → AreNumbers after new met
still_numbers pool after old new met same grows h = subst (λ (p : List PoolEntry). AreNumbers p new met) (sym same) (grown pool old new met grows h)

one_more_number : (pool : List PoolEntry) (numbers : List (List ℕ × ℕ)) (met : List (ℕ × ℕ)) (p : ℕ × ℕ) → AreNumbersOf pool numbers p → AreNumbers pool numbers met → AreNumbers pool numbers (met ++ p ∷ [])
one_more_number pool numbers [] p is h = (is, tt)
one_more_number pool numbers (q ∷ met) p is h = (h.0, one_more_number pool numbers met p is h.1)

pub numbers_after : (pool : List PoolEntry) (numbers : List (List ℕ × ℕ)) (met after : List (ℕ × ℕ)) (p : ℕ × ℕ) (new : Bool) → after ≡ cond new (met ++ p ∷ []) met → AreNumbersOf pool numbers p → AreNumbers pool numbers met → AreNumbers pool numbers after
numbers_after pool numbers met after p true e is h = subst (AreNumbers pool numbers) (sym e) (one_more_number pool numbers met p is h)
numbers_after pool numbers met after p false e is h = subst (AreNumbers pool numbers) (sym e) h

pub there : (pool : List PoolEntry) (place : ℕ) (text : List ℕ) → text_at pool place ≡ Some text → text_there pool place ≡ text
there pool place text e = ap (λ (t : Option (List ℕ)). unwrap_or t []) e

-- two texts are equal exactly where their numbers are
same_number : (pool : List PoolEntry) (numbers : List (List ℕ × ℕ)) (text : List ℕ) (n q : ℕ) → Stand pool numbers → number_in numbers text ≡ Some n → number_in numbers (text_there pool q) ≡ Some q → bytes_eq text (text_there pool q) ≡ (n == q)
same_number pool numbers text n q stand first second = both_ways (bytes_eq text (text_there pool q)) (n == q)
    (λ e. (Decides-eqb n q).1 (same_Some n q (sym first ∙ ap (number_in numbers) ((bytes_eq-Decides text (text_there pool q)).0 e) ∙ second)))
    (λ e. (bytes_eq-Decides text (text_there pool q)).1 (sym (there pool n text (stand.stands text n first)) ∙ ap (text_there pool) ((Decides-eqb n q).0 e)))

pub met_by_number : (pool : List PoolEntry) (numbers : List (List ℕ × ℕ)) (name desc : List ℕ) (m n : ℕ) (met : List (ℕ × ℕ)) → Stand pool numbers → number_in numbers name ≡ Some m → number_in numbers desc ≡ Some n → AreNumbers pool numbers met
    → list_any (is_key name desc) (map (key_of pool) met) ≡ list_any (same_pair (m, n)) met
met_by_number pool numbers name desc m n [] stand first second h = refl
met_by_number pool numbers name desc m n (p ∷ met) stand first second h =
    let names = same_number pool numbers name m p.0 stand first h.0.name in
    let descs = same_number pool numbers desc n p.1 stand second h.0.desc in
    let rest = met_by_number pool numbers name desc m n met stand first second h.1 in
    rw (names, descs, rest) refl

-- a number that a text has is the number of the text that stands there
own_number : (pool : List PoolEntry) (numbers : List (List ℕ × ℕ)) (text : List ℕ) (n : ℕ) → Stand pool numbers → number_in numbers text ≡ Some n → number_in numbers (text_there pool n) ≡ Some n
own_number pool numbers text n stand h = ap (number_in numbers) (there pool n text (stand.stands text n h)) ∙ h

pub are_numbers : (pool : List PoolEntry) (numbers : List (List ℕ × ℕ)) (name desc : List ℕ) (m n : ℕ) → Stand pool numbers → number_in numbers name ≡ Some m → number_in numbers desc ≡ Some n → AreNumbersOf pool numbers (m, n)
are_numbers pool numbers name desc m n stand first second = record { name = own_number pool numbers name m stand first; desc = own_number pool numbers desc n stand second }

-- the key that two numbers stand for
pub own_key : (pool : List PoolEntry) (numbers : List (List ℕ × ℕ)) (name desc : List ℕ) (m n : ℕ) → Stand pool numbers → number_in numbers name ≡ Some m → number_in numbers desc ≡ Some n → key_of pool (m, n) ≡ (name, desc)
own_key pool numbers name desc m n stand first second =
    let one = there pool m name (stand.stands name m first) in
    let other = there pool n desc (stand.stands desc n second) in
    rw (one, other) refl

pub keys_after : (pool : List PoolEntry) (met after : List (ℕ × ℕ)) (p : ℕ × ℕ) (key : List ℕ × List ℕ) (new : Bool) → after ≡ cond new (met ++ p ∷ []) met → key_of pool p ≡ key
    → map (key_of pool) after ≡ cond new (map (key_of pool) met ++ key ∷ []) (map (key_of pool) met)
keys_after pool met after p key true e is = ap (λ (ps : List (ℕ × ℕ)). map (key_of pool) ps) e ∙ map-append (key_of pool) met (p ∷ []) ∙ ap (λ (k : List ℕ × List ℕ). map (key_of pool) met ++ k ∷ []) is
keys_after pool met after p key false e is = ap (λ (ps : List (ℕ × ℕ)). map (key_of pool) ps) e

-- a text that was found has its number
pub numbered : (numbers : List (List ℕ × ℕ)) (found : Option Seen) (s : Seen) → found ≡ Some s → IfSome found (λ s. number_in numbers s.known ≡ Some s.number) → number_in numbers s.known ≡ Some s.number
numbered numbers found s e h = subst (λ (o : Option Seen). IfSome o (λ s. number_in numbers s.known ≡ Some s.number)) e h

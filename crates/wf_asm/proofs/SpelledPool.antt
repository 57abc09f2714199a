-- The constant pool of a class whose constants are texts, classes and methods can be written.
use Rattle.std.proofs.Common.{◌≡◌, ℕ, suc, ◌<◌, ◌≤◌, Bool, true, false, List, [], ◌∷◌, map, length, is_some, Option, refl, sym, ap, subst, arith}
use Rattle.std.specs.Int.{w8, w16}
use Rattle.std.specs.List.{AllByRecursion, flat_map, list_all}
use Rattle.std.proofs.lemmas.Bool.{and_from}
use Rattle.std.proofs.lemmas.List.{length-map}
use Rattle.wf_grammar.specs.ClassFile.{is_text_byte, is_sound}
use Rattle.wf_data.specs.Pool.{has_text}
use Rattle.wf_data.specs.declared.class_info.PoolEntry.{PoolEntry}
use Rattle.wf_data.specs.declared.class_info.PoolEntry.TheVariants as entry
use Rattle.wf_grammar.specs.Writing.{put_text, put_behind_tag, put_entry, put_pool_place, put_places, put_entries, put_pool, is_wide, tag_of}
use Rattle.wf_grammar.proofs.Written.{Writable, writable_nothing, writable_number, writable_run, writable_under, writable_then}
use Rattle.wf_grammar.proofs.WritablePool.{places_writable}
use Rattle.wf_listing.specs.declared.listing.Constant.{Constant}
use Rattle.wf_listing.specs.declared.listing.Constant.TheVariants as constant
use Rattle.wf_asm.specs.Constants.{parts_of, with_constants, place_of, entry_of, pool_of}
use Rattle.wf_asm.proofs.HeldLaws.{IsHeld, all_held, each_with, text_found, class_has_place, name_type_has_place, place_small}

-- a text that a pool can have
pub record IsPoolText (text : List ℕ) : Type 0 where
  pub bytes : list_all is_text_byte text ≡ true
  pub short : length text < 65536

-- what a pool has room for, of the constants that a generated class uses
abbrev pub HasRoom : Constant → Type 0
HasRoom (constant.Text text) = IsPoolText text
HasRoom (constant.Class name) = IsPoolText name
HasRoom (constant.Method m) = IsPoolText m.class × IsPoolText m.name × IsPoolText m.desc
HasRoom c = ⊥

-- a constant that can be written: what it names is there
abbrev pub IsFine : List Constant → Constant → Type 0
IsFine cs (constant.Text text) = IsPoolText text
IsFine cs (constant.Class name) = IsHeld cs (constant.Text name)
IsFine cs (constant.NameType name desc) = IsHeld cs (constant.Text name) × IsHeld cs (constant.Text desc)
IsFine cs (constant.Method m) = IsHeld cs (constant.Class m.class) × IsHeld cs (constant.NameType m.name m.desc)
IsFine cs c = ⊥

parts_fine : (cs us : List Constant) → AllByRecursion (IsHeld cs) (flat_map parts_of us) → AllByRecursion HasRoom us → AllByRecursion (IsFine cs) (flat_map parts_of us)
parts_fine cs [] h g = tt
parts_fine cs (constant.Text text ∷ us) h g = (g.0, parts_fine cs us h.1 g.1)
parts_fine cs (constant.Class name ∷ us) h g = (h.1.0, (g.0, parts_fine cs us h.1.1 g.1))
parts_fine cs (constant.Method m ∷ us) h g =
    let class = h.1 in
    let member = class.1.1 in
    ((class.0, member.0), (class.1.0, (g.0.0, ((member.1.0, member.1.1.0), (g.0.1, (g.0.2, parts_fine cs us member.1.1.1 g.1))))))
parts_fine cs (c ∷ us) h g = absurd g.0

pub all_fine : (us : List Constant) → AllByRecursion HasRoom us → AllByRecursion (IsFine (with_constants [] (flat_map parts_of us))) (with_constants [] (flat_map parts_of us))
all_fine us g =
    let cs = with_constants [] (flat_map parts_of us) in
    each_with (IsFine cs) [] (flat_map parts_of us) tt (parts_fine cs us (all_held [] (flat_map parts_of us)) g)

text_there : (cs : List Constant) (text : List ℕ) → IsHeld cs (constant.Text text) → has_text (pool_of cs) (place_of cs (constant.Text text)) ≡ true
text_there cs text h = ap (λ (t : Option (List ℕ)). is_some t) (text_found cs text h)

sound : (cs : List Constant) (c : Constant) → IsFine cs c → is_sound (pool_of cs) (entry_of cs c) ≡ true
sound cs (constant.Text text) h = refl
sound cs (constant.Class name) h = text_there cs name h
sound cs (constant.NameType name desc) h = and_from _ _ (text_there cs name h.0) (text_there cs desc h.1)
sound cs (constant.Method m) h = and_from _ _ (class_has_place cs m.class h.0) (name_type_has_place cs m.name m.desc h.1)
sound cs c h = absurd h

all_sound : (cs ds : List Constant) → AllByRecursion (IsFine cs) ds → list_all (is_sound (pool_of cs)) (map (entry_of cs) ds) ≡ true
all_sound cs [] h = refl
all_sound cs (d ∷ ds) h = and_from _ _ (sound cs d h.0) (all_sound cs ds h.1)

-- ---- what is written

-- an entry that can be written, and takes one place
record IsNarrow (e : PoolEntry) : Type 0 where
  writable : Writable (put_entry e)
  one : is_wide e ≡ false

tagged : (e : PoolEntry) → tag_of e < 256 → Writable (put_behind_tag e) → Writable (put_entry e)
unfolding put_entry
tagged e small rest = writable_then (writable_number w8 (tag_of e) small) rest

narrow : (cs : List Constant) (c : Constant) → length cs ≤ 65534 → IsFine cs c → IsNarrow (entry_of cs c)
unfolding put_behind_tag put_text
narrow cs (constant.Text text) few h =
    record { writable = tagged (entry.Utf8 text) (omega arith) (writable_under (list_all is_text_byte text) h.bytes (writable_then (writable_number w16 (length text) (omega (arith, h.short))) (writable_run text))); one = refl }
narrow cs (constant.Class name) few h =
    record { writable = tagged (entry_of cs (constant.Class name)) (omega arith) (writable_number w16 _ (place_small cs (constant.Text name) few)); one = refl }
narrow cs (constant.NameType name desc) few h =
    record {
      writable = tagged (entry_of cs (constant.NameType name desc)) (omega arith) (places_writable _ _ (place_small cs (constant.Text name) few) (place_small cs (constant.Text desc) few));
      one = refl;
    }
narrow cs (constant.Method m) few h =
    record {
      writable = tagged (entry_of cs (constant.Method m)) (omega arith) (places_writable _ _ (place_small cs (constant.Class m.class) few) (place_small cs (constant.NameType m.name m.desc) few));
      one = refl;
    }
narrow cs c few h = absurd h

places_written : (cs ds : List Constant) → length cs ≤ 65534 → AllByRecursion (IsFine cs) ds → Writable (put_places false (map (entry_of cs) ds))
unfolding put_places put_pool_place
places_written cs [] few h = writable_nothing
places_written cs (d ∷ ds) few h =
    let n = narrow cs d few h.0 in
    writable_then n.writable (subst (λ (b : Bool). Writable (put_places b (map (entry_of cs) ds))) (sym n.one) (places_written cs ds few h.1))

pub pool_written : (cs : List Constant) → length cs ≤ 65534 → AllByRecursion (IsFine cs) cs → Writable (put_pool (pool_of cs))
unfolding put_pool put_entries
pool_written cs few h =
    let es = map (entry_of cs) cs in
    let count : suc (length es) < 65536 = omega (arith, length-map cs (entry_of cs)) in
    record {
      has = λ out. (writable_under (list_all (is_sound (pool_of cs)) es) (all_sound cs cs h) (writable_then (writable_number w16 (suc (length es)) count) (places_written cs cs few h))).has out;
    }

-- Where bytes spell a constant pool, something is written for it, piece by piece.
use Rattle.std.proofs.Common.{◌≡◌, ℕ, suc, ◌^◌, ◌<◌, Bool, true, false, eqb, List, ◌∷◌, length, refl, sym, ap, subst, ◌∙◌, arith}
use Rattle.std.specs.Int.{Width, byte_len, w8, w16, w32, w64, cast_signed, cast_unsigned}
use Rattle.std.specs.List.{list_all}
use Rattle.std.specs.Ordering.{int_eq}
use Rattle.std.proofs.lemmas.Bool.{eqb-true, eqb-false}
use Rattle.std.proofs.lemmas.Bool.Decides.{Decides-int_eq}
use Rattle.std.proofs.lemmas.Int.{of_z-to_z}
use Rattle.wf_data.specs.declared.class_info.PoolEntry.{PoolEntry}
use Rattle.wf_data.specs.declared.class_info.PoolEntry.TheVariants as entry
use Rattle.wf_bytes.specs.Grammar.{U2, Is, Then, Choice}
use Rattle.wf_grammar.specs.ClassFile.{TextOf, NarrowAs, WideAs, Entries, no_more, narrow, wide, is_text_byte, is_sound, PoolIs}
use Rattle.wf_grammar.specs.Writing.{put_number, put_signed, put_text, put_two_places, put_handle, tag_of, put_behind_tag, put_entry, is_wide, put_pool_place, put_places, put_entries, put_pool}
use Rattle.wf_descriptor.proofs.DescriptorLaws.{not_true}
use Rattle.wf_grammar.proofs.Written.{Writable, writable_nothing, writable_number, writable_run, writable_under, writable_then}

-- ---- the constant pool

-- a constant under a tag: what is behind the tag can be written, and whether it takes two places
record UnderTag (two : Bool) (tag : ℕ) (e : PoolEntry) : Type 0 where
  tag_is : tag ≡ tag_of e
  sort : is_wide e ≡ two
  rest : Writable (put_behind_tag e)

-- one of two pieces, by the test
pub either : {A C : Type 0} (b : Bool) (G H : List ℕ → A → Type 0) (text : List ℕ) (x : A) → Choice b G H text x → (b ≡ true → G text x → C) → (H text x → C) → C
either true G H text x g one two = one refl g
either false G H text x g one two = two g

signed_writable : (w : Width) (n : ℕ) → cast_unsigned w (cast_signed w n) ≡ n → n < 256 ^ byte_len w → Writable (put_signed w (cast_signed w n))
unfolding put_signed
signed_writable w n same small =
    writable_under (int_eq (cast_signed w (cast_unsigned w (cast_signed w n))) (cast_signed w n)) ((Decides-int_eq _ _).1 (ap (cast_signed w) same)) (
    subst (λ (k : ℕ). Writable (put_number w k)) (sym same) (writable_number w n small))

text_under : (tag : ℕ) (text : List ℕ) (e : PoolEntry) → eqb tag 1 ≡ true → Then U2 (λ n. Then (TextOf n) (λ t. Is (entry.Utf8 t))) text e → UnderTag false tag e
unfolding put_behind_tag put_text
text_under tag text e is g =
    let t = g.back.front in
    let count : length g.back.value ≡ g.value = ap length (t.back.rest.same ∙ t.front.same) ∙ t.front.count in
    let fine : list_all is_text_byte g.back.value ≡ true = ap (list_all is_text_byte) t.back.rest.same ∙ t.back.holds in
    subst (UnderTag false tag) (sym g.back.back.same) (record {
      tag_is = eqb-true tag 1 is;
      sort = refl;
      rest = writable_under (list_all is_text_byte g.back.value) fine (writable_then (writable_number w16 (length g.back.value) (omega (arith, g.front.small))) (writable_run g.back.value));
    })

-- a constant of one number, of two places, or of a kind and a place
one_under : {two : Bool} {tag : ℕ} {e : PoolEntry} {text : List ℕ} {G : List ℕ → ℕ → Type 0} (made : ℕ → PoolEntry) → ((n : ℕ) (t : List ℕ) → G t n → UnderTag two tag (made n)) → Then G (λ n. Is (made n)) text e → UnderTag two tag e
one_under {two = two} {tag = tag} made one g = subst (UnderTag two tag) (sym g.back.same) (one g.value g.first g.front)

two_under : {tag : ℕ} {e : PoolEntry} {text : List ℕ} {G : List ℕ → ℕ → Type 0} (made : ℕ → ℕ → PoolEntry) → ((m n : ℕ) (s : List ℕ) → G s m → n < 65536 → UnderTag false tag (made m n)) → Then G (λ m. Then U2 (λ n. Is (made m n))) text e → UnderTag false tag e
two_under {tag = tag} made one g = subst (UnderTag false tag) (sym g.back.back.same) (one g.value g.back.value g.first g.front g.back.front.small)

pub places_writable : (m n : ℕ) → m < 65536 → n < 65536 → Writable (put_two_places m n)
unfolding put_two_places
places_writable m n first second = writable_then (writable_number w16 m first) (writable_number w16 n second)

handle_writable : (m n : ℕ) → m < 256 → n < 65536 → Writable (put_handle m n)
unfolding put_handle
handle_writable m n first second = writable_then (writable_number w8 m first) (writable_number w16 n second)

narrow_under : (tag : ℕ) (text : List ℕ) (e : PoolEntry) → NarrowAs tag text e → UnderTag false tag e
unfolding put_behind_tag
narrow_under tag text e g =
    either (eqb tag 1) _ _ text e g (λ is h. text_under tag text e is h) (λ g.
    either (eqb tag 3) _ _ text e g (λ is h. one_under (λ n. entry.Integer (cast_signed w32 n)) (λ n t u. record { tag_is = eqb-true tag 3 is; sort = refl; rest = signed_writable w32 n (of_z-to_z w32 n u.small) u.small }) h) (λ g.
    either (eqb tag 4) _ _ text e g (λ is h. one_under entry.Float (λ n t u. record { tag_is = eqb-true tag 4 is; sort = refl; rest = writable_number w32 n u.small }) h) (λ g.
    either (eqb tag 7) _ _ text e g (λ is h. one_under entry.Class (λ n t u. record { tag_is = eqb-true tag 7 is; sort = refl; rest = writable_number w16 n u.small }) h) (λ g.
    either (eqb tag 8) _ _ text e g (λ is h. one_under entry.Str (λ n t u. record { tag_is = eqb-true tag 8 is; sort = refl; rest = writable_number w16 n u.small }) h) (λ g.
    either (eqb tag 9) _ _ text e g (λ is h. two_under entry.Field (λ m n t u v. record { tag_is = eqb-true tag 9 is; sort = refl; rest = places_writable m n u.small v }) h) (λ g.
    either (eqb tag 10) _ _ text e g (λ is h. two_under entry.Method (λ m n t u v. record { tag_is = eqb-true tag 10 is; sort = refl; rest = places_writable m n u.small v }) h) (λ g.
    either (eqb tag 11) _ _ text e g (λ is h. two_under entry.InterfaceMethod (λ m n t u v. record { tag_is = eqb-true tag 11 is; sort = refl; rest = places_writable m n u.small v }) h) (λ g.
    either (eqb tag 12) _ _ text e g (λ is h. two_under entry.NameType (λ m n t u v. record { tag_is = eqb-true tag 12 is; sort = refl; rest = places_writable m n u.small v }) h) (λ g.
    either (eqb tag 15) _ _ text e g (λ is h. two_under entry.Handle (λ m n t u v. record { tag_is = eqb-true tag 15 is; sort = refl; rest = handle_writable m n u.small v }) h) (λ g.
    either (eqb tag 16) _ _ text e g (λ is h. one_under entry.MethodKind (λ n t u. record { tag_is = eqb-true tag 16 is; sort = refl; rest = writable_number w16 n u.small }) h) (λ g.
    either (eqb tag 18) _ _ text e g (λ is h. two_under entry.Dynamic (λ m n t u v. record { tag_is = eqb-true tag 18 is; sort = refl; rest = places_writable m n u.small v }) h) (λ g. absurd g))))))))))))

wide_under : (tag : ℕ) (text : List ℕ) (e : PoolEntry) → WideAs tag text e → UnderTag true tag e
unfolding put_behind_tag
wide_under tag text e g =
    either (eqb tag 5) _ _ text e g (λ is h. one_under (λ n. entry.Long (cast_signed w64 n)) (λ n t u. record { tag_is = eqb-true tag 5 is; sort = refl; rest = signed_writable w64 n (of_z-to_z w64 n u.small) u.small }) h) (λ g.
    either (eqb tag 6) _ _ text e g (λ is h. one_under entry.Double (λ n t u. record { tag_is = eqb-true tag 6 is; sort = refl; rest = writable_number w64 n u.small }) h) (λ g. absurd g))

entry_writable : (two : Bool) (tag : ℕ) (e : PoolEntry) → tag < 256 → UnderTag two tag e → Writable (put_entry e)
unfolding put_entry
entry_writable two tag e small h = writable_then (writable_number w8 (tag_of e) (omega (arith, h.tag_is))) h.rest

entries_writable : (n : ℕ) (text : List ℕ) (es : List PoolEntry) → Entries n text es → Writable (put_places false es)
unfolding put_places put_pool_place
entries_writable _ _ _ no_more = writable_nothing
entries_writable _ _ _ (narrow n first rest e es g more) =
    let h = narrow_under g.value g.second e g.back in
    writable_then (entry_writable false g.value e g.front.small h) (subst (λ (b : Bool). Writable (put_places b es)) (sym h.sort) (entries_writable n rest es more))
entries_writable _ _ _ (wide n first rest e es g more) =
    let h = wide_under g.value g.second e g.back in
    let behind : Writable (put_places true (entry.Unusable ∷ es)) = record { has = λ out. (entries_writable n rest es more).has out } in
    writable_then (entry_writable true g.value e g.front.small h) (subst (λ (b : Bool). Writable (put_places b (entry.Unusable ∷ es))) (sym h.sort) behind)

entries_length : (n : ℕ) (text : List ℕ) (es : List PoolEntry) → Entries n text es → length es ≡ n
entries_length _ _ _ no_more = refl
entries_length _ _ _ (narrow n first rest e es g more) = ap suc (entries_length n rest es more)
entries_length _ _ _ (wide n first rest e es g more) = ap (λ (k : ℕ). suc (suc k)) (entries_length n rest es more)

pub pool_writable : (text : List ℕ) (pool : List PoolEntry) → PoolIs text pool → Writable (put_pool pool)
unfolding put_pool put_entries
pool_writable text pool g =
    let h = g.back.rest in
    let es = h.value in
    let some : g.value ≡ 0 → ⊥ = eqb-false g.value 0 (not_true _ g.back.holds) in
    let count : suc (length es) < 65536 = omega (arith, some, g.front.small, entries_length _ h.first es h.front) in
    subst (λ (p : List PoolEntry). Writable (put_pool p)) (sym h.back.rest.same) (record {
      has = λ out. (writable_under (list_all (is_sound (entry.Unusable ∷ es)) es) h.back.holds (writable_then (writable_number w16 (suc (length es)) count) (entries_writable _ h.first es h.front))).has out;
    })

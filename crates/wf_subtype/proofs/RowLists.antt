-- Rows of targets as lists of words.
use Rattle.std.proofs.Common.{◌≡◌, ℕ, ◌+◌, ◌-◌, ◌<◌, ◌≤◌, ◌^◌, ◌↔◌, ◌⊎◌, inl, inr, List, [], ◌∷◌, ◌++◌, length, get_or, refl, sym, ap, subst, ◌∙◌, arith}
use Rattle.std.specs.Prelude.{replicate}
use Rattle.std.proofs.Math.ListN.{set, length-set}
use Rattle.std.proofs.lemmas.Bool.{cases_lt, cases_eq}
use Rattle.std.proofs.lemmas.Grind.{get_or-set_at}
use Rattle.std.proofs.lemmas.List.{get_or_append_left, get_or_push, get_or-set_other, get_or-replicate, length_push, length-replicate}
use Rattle.wf_classes.specs.Above.{Has, Adds}
use Rattle.wf_classes.proofs.Sweep.{empty_has_none}
use Rattle.wf_subtype.specs.Rows.{AreRows, AreFresh, IsNullRow, IsBit, Marks, Owns, Puts, row_at, words_at}
use Rattle.wf_subtype.specs.declared.rows.Rows.{Rows}

pub null_row_is : (width : ℕ) (words : List ℕ) → Adds (replicate width 0) words (λ g. g ≡ 1) → IsNullRow width words
null_row_is width words h = record {
  size = h.same_length ∙ length-replicate width 0;
  null = λ b. (λ p. elim ((h.each b).0 p) [ inl a ↦ absurd (empty_has_none width b a) | inr e ↦ e ], λ e. (h.each b).1 (inr e));
}

pub fresh_are : (width targets : ℕ) (rows : Rows) (row : List ℕ) → 0 < width → targets < 2 ^ 32 → rows.width ≡ width → rows.places.items ≡ replicate targets 0 → rows.rows.items ≡ row ∷ [] → IsNullRow width row → AreFresh width targets rows
fresh_are width targets rows row some few width_is places_is rows_is null = record {
  kept = record {
    targets = omega (arith, count, few);
    some = omega (arith, width_is, some);
    few = omega (arith, one);
    inside = λ u l. omega (arith, zero_at u l, one);
    own = λ u v l k e. inl (zero_at u l);
    wide = λ i l. ap (λ k. length (words_at rows.rows.items k)) (is_zero i l) ∙ ap length words_zero ∙ null.size ∙ sym width_is;
    first = subst (λ w. IsNullRow w (words_at rows.rows.items 0)) (sym width_is) (subst (IsNullRow width) (sym words_zero) null);
  };
  width = width_is;
  count = count;
  null = λ u b l. subst (λ (ws : List ℕ). Has ws b ↔ (b ≡ 1)) (sym (row_zero u (omega (arith, l, count)))) (null.null b);
} where
  count : length rows.places.items ≡ targets
  count = ap length places_is ∙ length-replicate targets 0

  one : length rows.rows.items ≡ 1
  one = ap length rows_is

  zero_at : (u : ℕ) → u < length rows.places.items → get_or rows.places.items u 0 ≡ 0
  zero_at u l = ap (λ (xs : List ℕ). get_or xs u 0) places_is ∙ get_or-replicate targets u 0 0 (omega (arith, l, count))

  is_zero : (i : ℕ) → i < length rows.rows.items → i ≡ 0
  is_zero i l = omega (arith, l, one)

  words_zero : words_at rows.rows.items 0 ≡ row
  words_zero = ap (λ (rs : List (List ℕ)). words_at rs 0) rows_is

  row_zero : (u : ℕ) → u < length rows.places.items → row_at rows u ≡ row
  row_zero u l = ap (words_at rows.rows.items) (zero_at u l) ∙ words_zero

-- a target that shares the first row gets one of its own, at the end
pub own_more : (old new : Rows) (u n : ℕ) (row : List ℕ) → n ≡ length old.rows.items → AreRows old → u < length old.places.items → get_or old.places.items u 0 ≡ 0 → n < 2 ^ 32 - 1
    → new.width ≡ old.width → new.places.items ≡ set old.places.items u n → new.rows.items ≡ old.rows.items ++ row ∷ [] → IsNullRow old.width row → Owns old new u n
own_more old new u n row n_is h l zero few width_is places_is rows_is null = record {
  kept = record {
    targets = omega (arith, count, h.targets);
    some = omega (arith, width_is, h.some);
    few = omega (arith, grown, few);
    inside = λ v k. inside v (omega (arith, k, count)) (cases_eq v u);
    own = λ v w k m e. own v w (omega (arith, k, count)) (omega (arith, m, count)) e (cases_eq v u) (cases_eq w u);
    wide = λ i k. wide i (cases_lt i n) (omega (arith, k, grown));
    first = subst (λ w. IsNullRow w (words_at new.rows.items 0)) (sym width_is) (subst (IsNullRow old.width) (sym (words_old 0 some)) h.first);
  };
  width = width_is;
  count = count;
  place = here u refl;
  own = λ e. omega (arith, e, some);
  same = λ v b k. same v b k (cases_eq v u);
} where
  some : 0 < n
  some = omega (arith, h.inside u l, n_is)

  count : length new.places.items ≡ length old.places.items
  count = ap length places_is ∙ length-set old.places.items u n

  grown : length new.rows.items ≡ n + 1
  grown = ap length rows_is ∙ length_push old.rows.items row ∙ ap (λ k. k + 1) (sym n_is)

  here : (v : ℕ) → v ≡ u → get_or new.places.items v 0 ≡ n
  here v e = ap (λ (xs : List ℕ). get_or xs v 0) places_is ∙ get_or-set_at old.places.items u v n 0 e l

  there : (v : ℕ) → (v ≡ u → ⊥) → get_or new.places.items v 0 ≡ get_or old.places.items v 0
  there v d = ap (λ (xs : List ℕ). get_or xs v 0) places_is ∙ get_or-set_other old.places.items u v n 0 d

  words_old : (i : ℕ) → i < n → words_at new.rows.items i ≡ words_at old.rows.items i
  words_old i k = ap (λ (rs : List (List ℕ)). words_at rs i) rows_is ∙ get_or_append_left old.rows.items (row ∷ []) [] i (omega (arith, k, n_is))

  words_new : words_at new.rows.items n ≡ row
  words_new = ap (λ (rs : List (List ℕ)). words_at rs n) rows_is ∙ get_or_push old.rows.items row [] n (sym n_is)

  inside : (v : ℕ) → v < length old.places.items → ((v ≡ u) ⊎ (v ≡ u → ⊥)) → get_or new.places.items v 0 < length new.rows.items
  inside v k (inl e) = omega (arith, here v e, grown)
  inside v k (inr d) = omega (arith, there v d, h.inside v k, grown, n_is)

  own : (v w : ℕ) → v < length old.places.items → w < length old.places.items → get_or new.places.items v 0 ≡ get_or new.places.items w 0 → ((v ≡ u) ⊎ (v ≡ u → ⊥)) → ((w ≡ u) ⊎ (w ≡ u → ⊥)) → (get_or new.places.items v 0 ≡ 0) ⊎ (v ≡ w)
  own v w k m e (inl a) (inl b) = inr (a ∙ sym b)
  own v w k m e (inl a) (inr b) = absurd (omega (arith, e, here v a, there w b, h.inside w m, n_is))
  own v w k m e (inr a) (inl b) = absurd (omega (arith, e, here w b, there v a, h.inside v k, n_is))
  own v w k m e (inr a) (inr b) = elim (h.own v w k m (sym (there v a) ∙ e ∙ there w b)) [ inl z ↦ inl (there v a ∙ z) | inr f ↦ inr f ]

  wide : (i : ℕ) → ((i < n) ⊎ (n ≤ i)) → i < n + 1 → length (words_at new.rows.items i) ≡ new.width
  wide i (inl a) k = ap length (words_old i a) ∙ h.wide i (omega (arith, a, n_is)) ∙ sym width_is
  wide i (inr b) k =
      let e : i ≡ n = omega (arith, b, k) in
      ap (λ j. length (words_at new.rows.items j)) e ∙ ap length words_new ∙ null.size ∙ sym width_is

  same : (v b : ℕ) → v < length old.places.items → ((v ≡ u) ⊎ (v ≡ u → ⊥)) → Has (row_at new v) b ↔ Has (row_at old v) b
  same v b k (inl e) =
      let own_is : row_at new v ≡ row = ap (words_at new.rows.items) (here v e) ∙ words_new in
      let old_is : row_at old v ≡ words_at old.rows.items 0 = ap (words_at old.rows.items) (ap (λ j. get_or old.places.items j 0) e ∙ zero) in
      (λ p. subst (λ (ws : List ℕ). Has ws b) (sym old_is) ((h.first.null b).1 ((null.null b).0 (subst (λ (ws : List ℕ). Has ws b) own_is p))), λ p. subst (λ (ws : List ℕ). Has ws b) (sym own_is) ((null.null b).1 ((h.first.null b).0 (subst (λ (ws : List ℕ). Has ws b) old_is p))))
  same v b k (inr d) =
      let is : row_at new v ≡ row_at old v = ap (words_at new.rows.items) (there v d) ∙ words_old (get_or old.places.items v 0) (omega (arith, h.inside v k, n_is)) in
      (λ p. subst (λ (ws : List ℕ). Has ws b) is p, λ p. subst (λ (ws : List ℕ). Has ws b) (sym is) p)

-- a target that has a row of its own keeps it
pub own_kept : (rows : Rows) (u : ℕ) → AreRows rows → (get_or rows.places.items u 0 ≡ 0 → ⊥) → Owns rows rows u (get_or rows.places.items u 0)
own_kept rows u h d = record { kept = h; width = refl; count = refl; place = refl; own = d; same = λ v b l. (λ p. p, λ p. p) }

pub marks_is : (old new : List (List ℕ)) (i b : ℕ) (row : List ℕ) → i < length old → new ≡ set old i row → Adds (words_at old i) row (λ g. g ≡ b) → Marks old new i b
marks_is old new i b row l new_is h = record {
  count = ap length new_is ∙ length-set old i row;
  size = λ j. size j (cases_eq j i);
  here = λ k. (λ p. (h.each k).0 (subst (λ (ws : List ℕ). Has ws k) (here i refl) p), λ q. subst (λ (ws : List ℕ). Has ws k) (sym (here i refl)) ((h.each k).1 q));
  other = there;
} where
  here : (j : ℕ) → j ≡ i → words_at new j ≡ row
  here j e = ap (λ (rs : List (List ℕ)). words_at rs j) new_is ∙ get_or-set_at old i j row [] e l

  there : (j : ℕ) → (j ≡ i → ⊥) → words_at new j ≡ words_at old j
  there j d = ap (λ (rs : List (List ℕ)). words_at rs j) new_is ∙ get_or-set_other old i j row [] d

  size : (j : ℕ) → ((j ≡ i) ⊎ (j ≡ i → ⊥)) → length (words_at new j) ≡ length (words_at old j)
  size j (inl e) = ap length (here j e) ∙ h.same_length ∙ ap (λ k. length (words_at old k)) (sym e)
  size j (inr d) = ap length (there j d)

-- a bit is set in a target's own row
pub put_is : (old mid new : Rows) (u i b : ℕ) → u < length old.places.items → Owns old mid u i → new.width ≡ mid.width → new.places.items ≡ mid.places.items → Marks mid.rows.items new.rows.items i b → Puts old new (IsBit u b)
put_is old mid new u i b l h width_is places_is m = record {
  kept = record {
    targets = omega (arith, count, h.kept.targets);
    some = omega (arith, width_is, h.kept.some);
    few = omega (arith, m.count, h.kept.few);
    inside = λ v k. omega (arith, place v, h.kept.inside v (omega (arith, k, count)), m.count);
    own = λ v w k n e. elim (h.kept.own v w (omega (arith, k, count)) (omega (arith, n, count)) (sym (place v) ∙ e ∙ place w)) [ inl z ↦ inl (place v ∙ z) | inr f ↦ inr f ];
    wide = λ j k. m.size j ∙ h.kept.wide j (omega (arith, k, m.count)) ∙ sym width_is;
    first = subst (λ w. IsNullRow w (words_at new.rows.items 0)) (sym width_is) (subst (IsNullRow mid.width) (sym (m.other 0 (λ e. h.own (sym e)))) h.kept.first);
  };
  width = width_is ∙ h.width;
  count = count ∙ h.count;
  each = λ v c k. each v c k (cases_eq (get_or mid.places.items v 0) i);
} where
  count : length new.places.items ≡ length mid.places.items
  count = ap length places_is

  place : (v : ℕ) → get_or new.places.items v 0 ≡ get_or mid.places.items v 0
  place v = ap (λ (xs : List ℕ). get_or xs v 0) places_is

  target : (v : ℕ) → v < length old.places.items → get_or mid.places.items v 0 ≡ i → v ≡ u
  target v k e = elim (h.kept.own v u (omega (arith, k, h.count)) (omega (arith, l, h.count)) (e ∙ sym h.place)) [ inl z ↦ absurd (h.own (sym e ∙ z)) | inr f ↦ f ]

  each : (v c : ℕ) → v < length old.places.items → ((get_or mid.places.items v 0 ≡ i) ⊎ (get_or mid.places.items v 0 ≡ i → ⊥)) → Has (row_at new v) c ↔ (Has (row_at old v) c ⊎ IsBit u b v c)
  each v c k (inl e) =
      let new_is : row_at new v ≡ words_at new.rows.items i = ap (words_at new.rows.items) (place v ∙ e) in
      let mid_is : row_at mid v ≡ words_at mid.rows.items i = ap (words_at mid.rows.items) e in (
        λ p. elim ((m.here c).0 (subst (λ (ws : List ℕ). Has ws c) new_is p)) [
          | inl a ↦ inl ((h.same v c k).0 (subst (λ (ws : List ℕ). Has ws c) (sym mid_is) a))
          | inr f ↦ inr (record { target = target v k e; bit = f })
        ],
        λ q. subst (λ (ws : List ℕ). Has ws c) (sym new_is) ((m.here c).1 (elim q [
          | inl a ↦ inl (subst (λ (ws : List ℕ). Has ws c) mid_is ((h.same v c k).1 a))
          | inr f ↦ inr f.bit
        ])),
      )
  each v c k (inr d) =
      let is : row_at new v ≡ row_at mid v = ap (words_at new.rows.items) (place v) ∙ m.other (get_or mid.places.items v 0) d in (
        λ p. inl ((h.same v c k).0 (subst (λ (ws : List ℕ). Has ws c) is p)),
        λ q. elim q [
          | inl a ↦ subst (λ (ws : List ℕ). Has ws c) (sym is) ((h.same v c k).1 a)
          | inr f ↦ absurd (d (ap (λ j. get_or mid.places.items j 0) f.target ∙ h.place))
        ],
      )

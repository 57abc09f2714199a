-- What a bit that is set or cleared does to the list.
use Rattle.std.proofs.Common.{◌≡◌, ◌≢◌, ℕ, zero, suc, ◌+◌, ◌*◌, ◌/◌, ◌%◌, ◌^◌, ◌<◌, ◌≤◌, Bool, true, false, ◌==◌, if◌then◌else◌, ◌⊎◌, inl, inr, List, length, slice_index, slice_index_or, slice_set, bit_and, bit_or, refl, sym, ap, ◌∙◌, subst₂, arith, get_or-set_same, get_or-set_other, eq-eqb, ne_eqb}
use Rattle.std.specs.Int.{bit_at, bit_not, w64}
use Rattle.std.proofs.lemmas.Bool.{cases_eq, true≢false}
use Rattle.std.proofs.lemmas.List.{get_or_default}
use Rattle.std.proofs.lemmas.Nat.Bits.{bit_at_set_same, bit_at_set_other, bit_at_clear_same, bit_at_clear_other, bit_at-zero}
use Rattle.wf_lattice.specs.Words.{words_of, has_bit}
use Rattle.wf_solve.specs.Work.{Work, work_of, is_listed, how_many, Adds, Takes, IsDone, IsKept}

abbrev bit_in : List ℕ → ℕ → Bool
bit_in work n = has_bit (words_of work) n

-- a word that is written changes the bits of its place alone
other_word : (work : List ℕ) (place v m : ℕ) → m / 64 ≢ place → bit_in (slice_set work place v) m ≡ bit_in work m
other_word work place v m ne = ap (λ (w : ℕ). bit_at w (m % 64) == 1) (get_or-set_other work place (m / 64) v 0 ne)

this_word : (work : List ℕ) (place v m : ℕ) → place < length work → m / 64 ≡ place → bit_in (slice_set work place v) m ≡ (bit_at v (m % 64) == 1)
this_word work place v m lt e = ap (λ (k : ℕ). bit_at (slice_index (slice_set work place v) k) (m % 64) == 1) e ∙ ap (λ (w : ℕ). bit_at w (m % 64) == 1) (get_or-set_same work place v 0 lt)

was : (work : List ℕ) (place m : ℕ) → m / 64 ≡ place → bit_in work m ≡ (bit_at (slice_index work place) (m % 64) == 1)
was work place m e = ap (λ (k : ℕ). bit_at (slice_index work k) (m % 64) == 1) e

pub adds : (nodes : ℕ) (work : List ℕ) (n : ℕ) → n < 64 * length work → Adds n (work_of nodes work) (work_of nodes (slice_set work (n / 64) (bit_or (slice_index work (n / 64)) (1 * 2 ^ (n % 64) % 2 ^ 64))))
adds nodes work n lt = record { same = refl; there = there; others = λ m ne. go m ne (cases_eq (m / 64) (n / 64)) }
  where
    v : ℕ
    v = bit_or (slice_index work (n / 64)) (1 * 2 ^ (n % 64) % 2 ^ 64)

    inside : n / 64 < length work
    inside = omega arith

    low : n % 64 < 64
    low = omega arith

    there : bit_in (slice_set work (n / 64) v) n ≡ true
    there = this_word work (n / 64) v n inside refl ∙ eq-eqb (bit_at v (n % 64)) 1 (bit_at_set_same w64 (slice_index work (n / 64)) (n % 64) low)

    go : (m : ℕ) → m ≢ n → ((m / 64 ≡ n / 64) ⊎ (m / 64 ≡ n / 64 → ⊥)) → bit_in (slice_set work (n / 64) v) m ≡ bit_in work m
    go m ne (inr d) = other_word work (n / 64) v m d
    go m ne (inl e) = this_word work (n / 64) v m inside e
        ∙ ap (λ (b : ℕ). b == 1) (bit_at_set_other w64 (slice_index work (n / 64)) (n % 64) low (m % 64) (λ q. ne (omega (arith, e, q)))) ∙ sym (was work (n / 64) m e)

pub takes : (nodes : ℕ) (work : List ℕ) (place bit : ℕ) → IsKept (work_of nodes work) → place < length work → bit < 64 → bit_at (slice_index work place) bit ≡ 1
    → Takes (place * 64 + bit) (work_of nodes work) (work_of nodes (slice_set work place (bit_and (slice_index work place) (bit_not w64 (1 * 2 ^ bit % 2 ^ 64)))))
takes nodes work place bit kept lt low one_there = record { same = refl; below = kept.below (place * 64 + bit) there; there = there; gone = gone; others = λ m ne. go m ne (cases_eq (m / 64) place) }
  where
    v : ℕ
    v = bit_and (slice_index work place) (bit_not w64 (1 * 2 ^ bit % 2 ^ 64))

    found : (bit < 64) × (bit_at (slice_index work place) bit ≡ 1)
    found = (low, one_there)

    at : (place * 64 + bit) / 64 ≡ place
    at = omega (arith, found.0)

    rest : (place * 64 + bit) % 64 ≡ bit
    rest = omega (arith, found.0)

    there : bit_in work (place * 64 + bit) ≡ true
    there = was work place (place * 64 + bit) at ∙ eq-eqb (bit_at (slice_index work place) ((place * 64 + bit) % 64)) 1 (ap (bit_at (slice_index work place)) rest ∙ found.1)

    gone : bit_in (slice_set work place v) (place * 64 + bit) ≡ false
    gone = this_word work place v (place * 64 + bit) lt at ∙ ne_eqb (bit_at v ((place * 64 + bit) % 64)) 1 (λ one. absurd (omega (arith, one, ap (bit_at v) rest, bit_at_clear_same w64 (slice_index work place) bit found.0)))

    go : (m : ℕ) → m ≢ place * 64 + bit → ((m / 64 ≡ place) ⊎ (m / 64 ≡ place → ⊥)) → bit_in (slice_set work place v) m ≡ bit_in work m
    go m ne (inr d) = other_word work place v m d
    go m ne (inl h) = this_word work place v m lt h
        ∙ ap (λ (b : ℕ). b == 1) (bit_at_clear_other w64 (slice_index work place) bit found.0 (m % 64) (omega arith) (λ q. ne (omega (arith, h, q)))) ∙ sym (was work place m h)

-- no word, no node
pub done_if_zero : (nodes : ℕ) (work : List ℕ) → ((k : ℕ) → 0 ≤ k → slice_index work k ≡ 0) → IsDone (work_of nodes work)
done_if_zero nodes work h = record {
  each = λ m. ne_eqb (bit_at (slice_index work (m / 64)) (m % 64)) 1
      (λ one. absurd (omega (arith, one, ap (λ (w : ℕ). bit_at w (m % 64)) (h (m / 64) (omega arith)), bit_at-zero (m % 64))));
}

-- a list without a node is kept
pub kept_if_done : (nodes : ℕ) (work : List ℕ) → length work ≡ nodes / 64 + 1 → IsDone (work_of nodes work) → IsKept (work_of nodes work)
kept_if_done nodes work room done = record { room = room; below = λ m there. absurd (true≢false (sym there ∙ done.each m)) }

-- the same, as the code reads and writes the words behind the list
pub adds_at : (nodes : ℕ) (items : List ℕ) (now : Work) (n r : ℕ) → work_of nodes items ≡ now → IsKept (work_of nodes items) → r ≡ slice_index_or items (n / 64) r → n < now.nodes
    → Adds n now (work_of nodes (slice_set items (n / 64) (bit_or r (1 * 2 ^ (n % 64) % 2 ^ 64))))
adds_at nodes items now n r same kept read lt =
    let here : n < 64 * length items = omega (arith, ap (λ (w : Work). w.nodes) same, kept.room) in
    let word : r ≡ slice_index items (n / 64) = read ∙ get_or_default items (n / 64) r 0 (omega arith) in
    subst₂ (λ (w : ℕ) (l : Work). Adds n l (work_of nodes (slice_set items (n / 64) (bit_or w (1 * 2 ^ (n % 64) % 2 ^ 64))))) (sym word) same (adds nodes items n here)

pub takes_at : (nodes : ℕ) (items : List ℕ) (now : Work) (place r bit : ℕ) → work_of nodes items ≡ now → IsKept (work_of nodes items) → r ≡ slice_index_or items place r → place < length now.bits → bit < 64 → bit_at r bit ≡ 1
    → Takes (place * 64 + bit) now (work_of nodes (slice_set items place (bit_and r (bit_not w64 (1 * 2 ^ bit % 2 ^ 64)))))
takes_at nodes items now place r bit same kept read lt low one =
    let here : place < length items = omega (arith, ap (λ (w : Work). length w.bits) same) in
    let word : r ≡ slice_index items place = read ∙ get_or_default items place r 0 here in
    subst₂ (λ (w : ℕ) (l : Work). Takes (place * 64 + bit) l (work_of nodes (slice_set items place (bit_and w (bit_not w64 (1 * 2 ^ bit % 2 ^ 64)))))) (sym word) same
    (takes nodes items place bit kept here low (sym (ap (λ (w : ℕ). bit_at w bit) word) ∙ one))

-- what is kept stays so
pub kept_added : (nodes : ℕ) (items new : List ℕ) (now : Work) (n : ℕ) → work_of nodes items ≡ now → IsKept (work_of nodes items) → length new ≡ length items → n < now.nodes → Adds n now (work_of nodes new) → IsKept (work_of nodes new)
kept_added nodes items new now n same kept room lt a = record { room = room ∙ kept.room; below = λ m there. go m there (cases_eq m n) }
  where
    go : (m : ℕ) → is_listed (work_of nodes new) m ≡ true → ((m ≡ n) ⊎ (m ≡ n → ⊥)) → m < nodes
    go m there (inl e) = omega (arith, e, lt, ap (λ (w : Work). w.nodes) same)
    go m there (inr other) = kept.below m (ap (λ (w : Work). is_listed w m) same ∙ sym (a.others m other) ∙ there)

pub kept_taken : (nodes : ℕ) (items new : List ℕ) (now : Work) (n : ℕ) → work_of nodes items ≡ now → IsKept (work_of nodes items) → length new ≡ length items → Takes n now (work_of nodes new) → IsKept (work_of nodes new)
kept_taken nodes items new now n same kept room t = record { room = room ∙ kept.room; below = λ m there. go m there (cases_eq m n) }
  where
    go : (m : ℕ) → is_listed (work_of nodes new) m ≡ true → ((m ≡ n) ⊎ (m ≡ n → ⊥)) → m < nodes
    go m there (inl e) = absurd (true≢false (sym there ∙ ap (λ (k : ℕ). is_listed (work_of nodes new) k) e ∙ t.gone))
    go m there (inr other) = kept.below m (ap (λ (w : Work). is_listed w m) same ∙ sym (t.others m other) ∙ there)

-- ---- how many nodes are on the list

abbrev one_if : Bool → ℕ
one_if b = (if b then 1 else 0)

one_at_most : (b : Bool) → one_if b ≤ 1
one_at_most true = omega arith
one_at_most false = omega arith

alike_below : (n : ℕ) (f g : ℕ → Bool) → ((m : ℕ) → m < n → g m ≡ f m) → how_many n g ≡ how_many n f
alike_below zero f g h = refl
alike_below (suc n) f g h = omega (arith, alike_below n f g (λ m lt. h m (omega arith)), ap one_if (h n (omega arith)))

-- one more on the list
pub one_more : (n k : ℕ) (f g : ℕ → Bool) → ((m : ℕ) → m ≢ k → g m ≡ f m) → how_many n g ≤ how_many n f + 1
one_more zero k f g h = omega arith
one_more (suc n) k f g h = go (one_more n k f g h) (cases_eq n k)
  where
    go : how_many n g ≤ how_many n f + 1 → ((n ≡ k) ⊎ (n ≡ k → ⊥)) → how_many n g + one_if (g n) ≤ how_many n f + one_if (f n) + 1
    go before (inl e) = omega (arith, alike_below n f g (λ m lt. h m (λ same. absurd (omega (arith, same, e)))), one_at_most (g n))
    go before (inr other) = omega (arith, before, ap one_if (h n other))

-- one less
pub one_less : (n k : ℕ) (f g : ℕ → Bool) → k < n → f k ≡ true → g k ≡ false → ((m : ℕ) → m ≢ k → g m ≡ f m) → how_many n g + 1 ≤ how_many n f
one_less zero k f g lt there gone h = absurd (omega arith)
one_less (suc n) k f g lt there gone h = go (λ below. one_less n k f g below there gone h) (cases_eq n k)
  where
    go : (k < n → how_many n g + 1 ≤ how_many n f) → ((n ≡ k) ⊎ (n ≡ k → ⊥)) → how_many n g + one_if (g n) + 1 ≤ how_many n f + one_if (f n)
    go before (inl e) = omega (
      arith,
      alike_below n f g (λ m below. h m (λ same. absurd (omega (arith, below, same, e)))),
      ap one_if (ap g e ∙ gone),
      ap one_if (ap f e ∙ there),
    )
    go before (inr other) = omega (arith, before (omega (arith, lt, other)), ap one_if (h n other))

-- no more than the numbers themselves
pub all_at_most : (n : ℕ) (f : ℕ → Bool) → how_many n f ≤ n
all_at_most zero f = omega arith
all_at_most (suc n) f = omega (arith, all_at_most n f, one_at_most (f n))

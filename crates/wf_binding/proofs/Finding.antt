-- The first bad line of several is found by keeping the earlier of two.
use Rattle.std.proofs.Common.{◌≡◌, ℕ, ◌<◌, ◌≤◌, ◌+◌, Bool, true, false, cond, Option, Some, None, List, length, refl, sym, ap, subst, ◌∙◌, arith, inl, inr, ◌⊎◌, nat_lt}
use Rattle.std.specs.Prelude.{slice_get, option_map}
use Rattle.std.proofs.lemmas.Bool.{cases_lt, cases_Bool}
use Rattle.std.proofs.lemmas.Option.{slice_get_within}
use Rattle.wf_names.specs.declared.input.InputWhy.{InputWhy}
use Rattle.wf_binding.specs.Validity.{IsFirstBad, HasNoBad, Somewhere}
use Rattle.wf_binding.specs.First.{IsFirst, IsWord, Upto, at_line, earlier_of}
use Rattle.wf_binding.specs.declared.first.BadLine.{BadLine}

-- one set of bad lines is two together
pub record AreTogether (P Q R : ℕ → InputWhy → Type 0) : Type 0 where
  pub left : (line : ℕ) (w : InputWhy) → P line w → R line w
  pub right : (line : ℕ) (w : InputWhy) → Q line w → R line w
  pub either : (line : ℕ) (w : InputWhy) → R line w → P line w ⊎ Q line w

lesser : (x y : BadLine) → ((y.line < x.line) × (earlier_of (Some x) (Some y) ≡ Some y)) ⊎ ((x.line ≤ y.line) × (earlier_of (Some x) (Some y) ≡ Some x))
lesser x y = elim (cases_lt y.line x.line) [
  | inl a ↦ inl (a, grind arith)
  | inr b ↦ inr (b, grind arith)
]

pub first_of_two : (P Q R : ℕ → InputWhy → Type 0) (a b : Option BadLine) → AreTogether P Q R → IsFirst P a → IsFirst Q b → IsFirst R (earlier_of a b)
first_of_two P Q R None None t p q = record { none = λ line w r. elim (t.either line w r) [ inl x ↦ p.none line w x | inr y ↦ q.none line w y ] }
first_of_two P Q R None (Some y) t p q = record {
  bad = t.right y.line y.why q.bad;
  first = λ line w r. elim (t.either line w r) [ inl x ↦ absurd (p.none line w x) | inr z ↦ q.first line w z ];
}
first_of_two P Q R (Some x) None t p q = record {
  bad = t.left x.line x.why p.bad;
  first = λ line w r. elim (t.either line w r) [ inl z ↦ p.first line w z | inr y ↦ absurd (q.none line w y) ];
}
first_of_two P Q R (Some x) (Some y) t p q = elim (lesser x y) [
  | inl l ↦ subst (IsFirst R) (sym l.1) (record {
    bad = t.right y.line y.why q.bad;
    first = λ line w r. elim (t.either line w r) [ inl z ↦ (let f = p.first line w z in omega (arith, l.0, f)) | inr z ↦ q.first line w z ];
  })
  | inr g ↦ subst (IsFirst R) (sym g.1) (record {
    bad = t.left x.line x.why p.bad;
    first = λ line w r. elim (t.either line w r) [ inl z ↦ p.first line w z | inr z ↦ (let f = q.first line w z in omega (arith, g.0, f)) ];
  })
]

-- none of no things is bad
pub first_nothing : (Bad : ℕ → ℕ → InputWhy → Type 0) → IsFirst (Upto Bad 0) None
first_nothing Bad = record { none = λ line w u. omega (arith, u.below) }

together : (Bad : ℕ → ℕ → InputWhy → Type 0) (n : ℕ) → AreTogether (Upto Bad n) (Bad n) (Upto Bad (n + 1))
together Bad n = record {
  left = λ line w u. record { place = u.place; below = omega (arith, u.below); bad = u.bad };
  right = λ line w b. record { place = n; below = omega arith; bad = b };
  either = λ line w u. elim (cases_lt u.place n) [
    | inl l ↦ inl (record { place = u.place; below = l; bad = u.bad })
    | inr m ↦ inr (let same : u.place ≡ n = omega (arith, u.below) in subst (λ i. Bad i line w) same u.bad)
  ];
}

-- one thing more
pub first_more : (Bad : ℕ → ℕ → InputWhy → Type 0) (n : ℕ) (found here : Option BadLine) → IsFirst (Upto Bad n) found → IsFirst (Bad n) here → IsFirst (Upto Bad (n + 1)) (earlier_of found here)
first_more Bad n found here p q = first_of_two (Upto Bad n) (Bad n) (Upto Bad (n + 1)) found here (together Bad n) p q

-- all things
pub first_somewhere : (Bad : ℕ → ℕ → InputWhy → Type 0) (n : ℕ) (found : Option BadLine) → ((place line : ℕ) (w : InputWhy) → Bad place line w → place < n) → IsFirst (Upto Bad n) found → IsFirst (Somewhere Bad) found
first_somewhere Bad n None h p = record { none = λ line w s. p.none line w (record { place = s.place; below = h s.place line w s.bad; bad = s.bad }) }
first_somewhere Bad n (Some x) h p = record {
  bad = record { place = p.bad.place; bad = p.bad.bad };
  first = λ line w s. p.first line w (record { place = s.place; below = h s.place line w s.bad; bad = s.bad });
}

-- a word at its line
pub first_at_line : (Bad : ℕ → InputWhy → Type 0) (line : ℕ) (word : Option InputWhy) → ((w : InputWhy) → word ≡ Some w → Bad line w) → ((other : ℕ) (w : InputWhy) → Bad other w → (line ≡ other) × (word ≡ Some w)) → IsFirst Bad (at_line line word)
first_at_line Bad line None from to = record { none = λ other w b. (let e = (to other w b).1 in absurd cc) }
first_at_line Bad line (Some w) from to = record { bad = from w refl; first = λ other v b. (let e = (to other v b).0 in omega (arith, e)) }

-- the same where the word is one of several
pub first_of_word : (Bad : ℕ → InputWhy → Type 0) (P : InputWhy → Type 0) (line : ℕ) (word : Option InputWhy) → ((w : InputWhy) → P w → Bad line w) → ((other : ℕ) (w : InputWhy) → Bad other w → (line ≡ other) × P w) → IsWord P word → IsFirst Bad (at_line line word)
first_of_word Bad P line None from to h = record { none = λ other w b. h w (to other w b).1 }
first_of_word Bad P line (Some w) from to h = record { bad = from w h; first = λ other v b. (let e = (to other v b).0 in omega (arith, e)) }

-- First and last answers, and answers that are the words of a slice.
use Rattle.std.proofs.Common.{◌≡◌, ℕ, zero, suc, ◌+◌, ◌≤◌, ◌<◌, Bool, true, false, ◌==◌, if◌then◌else◌, ◌⊎◌, inl, inr, List, [], ◌∷◌, ◌++◌, length, Option, Some, None, slice_get, slice_index, refl, sym, ap, ◌∙◌, subst, subst₂, arith, eq-eqb, eqb-true, ne_eqb, bit_or}
use Rattle.std.proofs.lemmas.Bool.{cases_eq, cond-true, cond-false, true≢false}
use Rattle.std.proofs.lemmas.Nat.Bits.{same_from_bits}
use Rattle.wf_base.specs.declared.ids.NodeId.{NodeId}
use Rattle.wf_system.specs.declared.node_shape.NodeShape.{NodeShape}
use Rattle.wf_system.specs.declared.side.Side.{Side}
use Rattle.wf_system.specs.declared.inequality.Inequality.{Inequality}
use Rattle.wf_system.specs.System.{guard_holds, given}
use Rattle.wf_system.specs.Bodies.{tables_of}
use Rattle.wf_eval.specs.declared.plan.Plan.{Plan}
use Rattle.wf_eval.specs.Reading.{rows_of}
use Rattle.wf_eval.specs.Plans.{planned, SaidPlan}
use Rattle.wf_eval.proofs.SaidLaws.{said_then, said_so}
use Rattle.wf_eval.proofs.PlanLaws.{said_pair}
use Rattle.wf_lattice.specs.Words.{IsIn, IsWithin, words_of}
use Rattle.wf_lattice.proofs.BitLaws.{in_itself, in_through, in_bits}
use Rattle.wf_eval.specs.Said.{Seen, Grows, AreAtLeast, AreAtMost, Said, SaidWord, SaidBool}
use Rattle.wf_eval.specs.Answers.{word_of, first_of, last_of, LiesBetween}
use Rattle.wf_eval.specs.Kept.{Tells}

some_same : {A : Type 0} (a b : A) → Some a ≡ Some b → a ≡ b
some_same a b e = cc

-- the answers, one by one
least_each : (x : ℕ → ℕ) (l : List (ℕ × ℕ)) → ((j : ℕ) (b : ℕ × ℕ) → slice_get l j ≡ Some b → IsIn (x b.0) b.1) → AreAtLeast x l
least_each x [] h = tt
least_each x (a ∷ rest) h = (h 0 a refl, least_each x rest (λ j b e. h (suc j) b e))

most_each : (x : ℕ → ℕ) (l : List (ℕ × ℕ)) → ((j : ℕ) (b : ℕ × ℕ) → slice_get l j ≡ Some b → IsIn b.1 (x b.0)) → AreAtMost x l
most_each x [] h = tt
most_each x (a ∷ rest) h = (h 0 a refl, most_each x rest (λ j b e. h (suc j) b e))

grows_rest : (a : ℕ × ℕ) (rest : List (ℕ × ℕ)) → Grows (a ∷ rest) → Grows rest
grows_rest a rest g = record { each = λ i j b c le e f same. g.each (suc i) (suc j) b c (omega arith) e f same }

grows_after : (before rest : List (ℕ × ℕ)) → Grows (before ++ rest) → Grows rest
grows_after [] rest g = g
grows_after (a ∷ before) rest g = grows_after before rest (grows_rest a (before ++ rest) g)

first_in : (l : List (ℕ × ℕ)) (other : ℕ → ℕ) → Grows l → (j : ℕ) (b : ℕ × ℕ) → slice_get l j ≡ Some b → IsIn (first_of l other b.0) b.1
first_in [] other g j b e = absurd cc
first_in (a ∷ rest) other g j b e = go (cases_eq b.0 a.0) (λ i f. first_in rest other (grows_rest a rest g) i b f) j e
  where
    go : ((b.0 ≡ a.0) ⊎ (b.0 ≡ a.0 → ⊥)) → ((i : ℕ) → slice_get rest i ≡ Some b → IsIn (first_of rest other b.0) b.1) → (j : ℕ) → slice_get (a ∷ rest) j ≡ Some b → IsIn (first_of (a ∷ rest) other b.0) b.1
    go (inl same) later j e = subst (λ (w : ℕ). IsIn w b.1) (sym (cond-true (b.0 == a.0) a.1 (first_of rest other b.0) (eq-eqb b.0 a.0 same))) (g.each 0 j a b (omega arith) refl e (sym same))
    go (inr apart) later zero e = absurd (apart (ap (λ (c : ℕ × ℕ). c.0) (sym (some_same a b e))))
    go (inr apart) later (suc j) e = subst (λ (w : ℕ). IsIn w b.1) (sym (cond-false (b.0 == a.0) a.1 (first_of rest other b.0) (ne_eqb b.0 a.0 apart))) (later j e)

last_keeps : (l : List (ℕ × ℕ)) (other : ℕ → ℕ) (v i : ℕ) → IsIn v (other i) → ((j : ℕ) (b : ℕ × ℕ) → slice_get l j ≡ Some b → b.0 ≡ i → IsIn v b.1) → IsIn v (last_of l other i)
last_keeps [] other v i p h = p
last_keeps (a ∷ rest) other v i p h = last_keeps rest (λ j. if j == a.0 then a.1 else other j) v i (go (cases_eq i a.0)) (λ j b e same. h (suc j) b e same)
  where
    go : ((i ≡ a.0) ⊎ (i ≡ a.0 → ⊥)) → IsIn v (if i == a.0 then a.1 else other i)
    go (inl same) = subst (λ (w : ℕ). IsIn v w) (sym (cond-true (i == a.0) a.1 (other i) (eq-eqb i a.0 same))) (h 0 a refl (sym same))
    go (inr apart) = subst (λ (w : ℕ). IsIn v w) (sym (cond-false (i == a.0) a.1 (other i) (ne_eqb i a.0 apart))) p

last_in : (l : List (ℕ × ℕ)) (other : ℕ → ℕ) → Grows l → (j : ℕ) (b : ℕ × ℕ) → slice_get l j ≡ Some b → IsIn b.1 (last_of l other b.0)
last_in [] other g j b e = absurd cc
last_in (a ∷ rest) other g zero b e =
    let same : a ≡ b = some_same a b e in
    subst (λ (c : ℕ × ℕ). IsIn c.1 (last_of rest (λ j. if j == a.0 then a.1 else other j) c.0)) same
    (last_keeps rest (λ j. if j == a.0 then a.1 else other j) a.1 a.0
    (subst (λ (w : ℕ). IsIn a.1 w) (sym (cond-true (a.0 == a.0) a.1 (other a.0) (eq-eqb a.0 a.0 refl))) (in_itself a.1))
    (λ j c f h. g.each 0 (suc j) a c (omega arith) refl f (sym h)))
last_in (a ∷ rest) other g (suc j) b e = last_in rest (λ i. if i == a.0 then a.1 else other i) (grows_rest a rest g) j b e

-- a word that lies between bounds lies between the first and the last answers
pub lies_between : (f : (ℕ → ℕ) → ℕ) (old new : Seen) (r : ℕ) → SaidWord f old new r → LiesBetween f old new r
lies_between f old new r p = record {
  given = p.given;
  log = p.log;
  first = λ g other. p.low (first_of p.given other) (least_each (first_of p.given other) p.given (first_in p.given other (grown g)));
  last = λ g other. p.high (last_of p.given other) (most_each (last_of p.given other) p.given (last_in p.given other (grown g)));
}
  where
    grown : Grows old.log → Grows p.given
    grown g = grows_after old.log p.given (subst Grows p.log (p.grows g))

-- ---- the words of a slice

pub tells_nothing : (words : List ℕ) → Tells words []
tells_nothing words = record { each = λ i a e. absurd cc }

tells_one : (words : List ℕ) (b : ℕ × ℕ) (log : List (ℕ × ℕ)) → b.1 ≡ slice_index words b.0 → Tells words log → Tells words (b ∷ log)
tells_one words b log e t = record { each = each }
  where
    each : (j : ℕ) (a : ℕ × ℕ) → slice_get (b ∷ log) j ≡ Some a → a.1 ≡ slice_index words a.0
    each zero a f = subst (λ (c : ℕ × ℕ). c.1 ≡ slice_index words c.0) (some_same b a f) e
    each (suc j) a f = t.each j a f

pub tells_more : (words : List ℕ) (log : List (ℕ × ℕ)) (i w : ℕ) → Tells words log → w ≡ slice_index words i → Tells words (log ++ (i, w) ∷ [])
tells_more words [] i w t e = record { each = one }
  where
    one : (j : ℕ) (a : ℕ × ℕ) → slice_get ((i, w) ∷ []) j ≡ Some a → a.1 ≡ slice_index words a.0
    one zero a f = subst (λ (c : ℕ × ℕ). c.1 ≡ slice_index words c.0) (some_same (i, w) a f) e
    one (suc j) a f = absurd cc
tells_more words (b ∷ log) i w t e = tells_one words b (log ++ (i, w) ∷ []) (t.each 0 b refl) (tells_more words log i w (record { each = λ j a f. t.each (suc j) a f }) e)

pub tells_grow : (words : List ℕ) (log : List (ℕ × ℕ)) → Tells words log → Grows log
tells_grow words log t = record { each = λ i j a b le e f same. subst (λ (w : ℕ). IsIn a.1 w) (t.each i a e ∙ ap (slice_index words) same ∙ sym (t.each j b f)) (in_itself a.1) }

least_told : (words : List ℕ) (log : List (ℕ × ℕ)) → Tells words log → AreAtLeast (words_of words) log
least_told words log t = least_each (words_of words) log (λ j b e. subst (λ (w : ℕ). IsIn w b.1) (t.each j b e) (in_itself b.1))

most_told : (words : List ℕ) (x : ℕ → ℕ) (log : List (ℕ × ℕ)) → IsWithin (words_of words) x → Tells words log → AreAtMost x log
most_told words x log p t = most_each x log (λ j b e. subst (λ (w : ℕ). IsIn w (x b.0)) (sym (t.each j b e)) (p.each b.0))

-- what was said over the words of a slice, of which nothing was asked before
module _ {Low High : (ℕ → ℕ) → Type 0} (old new : Seen) (p : Said Low High old new) (words now : List ℕ) (asked : old.log ≡ []) (kept : old.kept ≡ words) (same : new.kept ≡ now) (tells : Tells now new.log) where
  told : Tells words p.given
  told = subst₂ Tells (sym same ∙ p.kept ∙ kept) (p.log ∙ ap (λ (l : List (ℕ × ℕ)). l ++ p.given) asked) tells

  pub low_at : Low (words_of words)
  low_at = p.low (words_of words) (least_told words p.given told)

  pub high_at : (x : ℕ → ℕ) → IsWithin (words_of words) x → High x
  high_at x above = p.high x (most_told words x p.given above told)

pub same_bool : (a b : Bool) → (a ≡ true → b ≡ true) → (b ≡ true → a ≡ true) → a ≡ b
same_bool true b p q = sym (p refl)
same_bool false true p q = q refl
same_bool false false p q = refl

pub same_word : (a b : ℕ) → IsIn a b → IsIn b a → a ≡ b
same_word a b p q = same_from_bits a b (λ k. omega (arith, in_bits a b k p, in_bits b a k q))

-- ---- an inequality whose guard holds, and one whose guard doesn't

pub eval_said : (nodes : List NodeShape) (most : ℕ) (side : Side) (q : Inequality NodeId) (k : ℕ) (g : Bool) (p : Plan) (r : ℕ) {a b c d : Seen} → g ≡ true
    → SaidBool (λ x. guard_holds (tables_of nodes most side) q.guard (rows_of nodes x)) a b g → SaidPlan nodes most side q.value q.target b c p → SaidWord (λ x. planned nodes side p x k) c d r
    → SaidWord (λ x. word_of (tables_of nodes most side) q (rows_of nodes x) k) a d r
eval_said nodes most side q k g p r e h i j = said_then (said_pair h i) j
    (λ x u v. low (guard_holds (tables_of nodes most side) q.guard (rows_of nodes x)) (given (tables_of nodes most side) q.value (rows_of nodes x) q.target k) (in_through (given (tables_of nodes most side) q.value (rows_of nodes x) q.target k) (planned nodes side p x k) r (u.1.each k) v))
    (λ x u v. high (guard_holds (tables_of nodes most side) q.guard (rows_of nodes x)) (given (tables_of nodes most side) q.value (rows_of nodes x) q.target k) (u.0 e) (in_through r (planned nodes side p x k) (given (tables_of nodes most side) q.value (rows_of nodes x) q.target k) v (u.1.each k)))
  where
    low : (t : Bool) (v : ℕ) → IsIn v r → IsIn (if t then v else 0) r
    low true v p = p
    low false v p = refl

    high : (t : Bool) (v : ℕ) → t ≡ true → IsIn r v → IsIn r (if t then v else 0)
    high true v e p = p
    high false v e p = absurd (true≢false (sym e))

pub none_said : (nodes : List NodeShape) (most : ℕ) (side : Side) (q : Inequality NodeId) (k : ℕ) (g : Bool) {a b : Seen} → g ≡ false
    → SaidBool (λ x. guard_holds (tables_of nodes most side) q.guard (rows_of nodes x)) a b g → SaidWord (λ x. word_of (tables_of nodes most side) q (rows_of nodes x) k) a b 0
none_said nodes most side q k g e h = said_so h
    (λ x u. low (guard_holds (tables_of nodes most side) q.guard (rows_of nodes x)) (given (tables_of nodes most side) q.value (rows_of nodes x) q.target k) u)
    (λ x u. refl)
  where
    low : (t : Bool) (v : ℕ) → (t ≡ true → g ≡ true) → IsIn (if t then v else 0) 0
    low true v up = absurd (true≢false (sym (up refl) ∙ e))
    low false v up = refl

-- the same of a system that is equal
pub moved_said : (q : Inequality NodeId) (k : ℕ) (nodes nodes' : List NodeShape) (most most' : ℕ) (side side' : Side) (r : ℕ) {a b : Seen} → nodes ≡ nodes' → most ≡ most' → side ≡ side'
    → SaidWord (λ x. word_of (tables_of nodes most side) q (rows_of nodes x) k) a b r → SaidWord (λ x. word_of (tables_of nodes' most' side') q (rows_of nodes' x) k) a b r
moved_said q k nodes nodes' most most' side side' r {a} {b} e f g p =
    subst (λ (s : Side). SaidWord (λ x. word_of (tables_of nodes' most' s) q (rows_of nodes' x) k) a b r) g
    (subst₂ (λ (n : List NodeShape) (m : ℕ). SaidWord (λ x. word_of (tables_of n m side) q (rows_of n x) k) a b r) e f p)

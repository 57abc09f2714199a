-- Words that say something are the words that are printed of it.
use Rattle.std.proofs.Common.{◌≡◌, ℕ, ◌^◌, ◌<◌, ◌≤◌, true, false, ◌&&◌, leb, List, [], ◌∷◌, ◌++◌, Some, None, refl, sym, ap, subst, ◌∙◌, arith, ℤ, pos, ◌-ℤ◌, ◌≤ℤ◌}
use Rattle.std.proofs.lemmas.Bool.{and_parts, leb-true}
use Rattle.std.proofs.lemmas.Int.{ints}
use Rattle.std.proofs.lemmas.Option.{option_and_then_some, cond_some, same_Some}
use Rattle.std.proofs.lemmas.Slice.Eq.{bytes_eq-Decides}
use Rattle.std.specs.Fmt.{decimal, signed_decimal}
use Rattle.std.specs.Prelude.{option_map, codes, int_le}
use Rattle.wf_names.specs.declared.member.MemberName.{MemberName}
use Rattle.wf_names.specs.declared.root.Root.{Root}
use Rattle.wf_names.specs.declared.root.Root.TheVariants.{StaticCall, Inst, Make}
use Rattle.wf_names.specs.NameForm.{escaped, name_of}
use Rattle.wf_lines.specs.Decimals.{natural_of, integer_of, at_most, within}
use Rattle.wf_lines.specs.Lines.{is_word, are_words}
use Rattle.wf_lines.specs.Members.{◌>>=◌, member_said, member_words}
use Rattle.wf_inputs.specs.declared.said.Said.{Said}
use Rattle.wf_inputs.specs.declared.said.Said.TheVariants.{Opens, Does, Sets}
use Rattle.wf_inputs.specs.declared.summary.Effect.{Effect}
use Rattle.wf_inputs.specs.declared.summary.Effect.TheVariants.{ReturnsVoid, Returns, Makes, Writes, Copies}
use Rattle.wf_inputs.specs.declared.summary.Value.{Value}
use Rattle.wf_inputs.specs.declared.summary.Value.TheVariants.{Null, Any, Int, New, OneOf, Arg}
use Rattle.wf_inputs.specs.Printing.{value_words, setting_words, effect_words, said_words, root_words}
use Rattle.wf_inputs.specs.Saying.{Words, keyed, name_said, method_said, argument_of, int_of, lone_value, value_with, value_said, setting_said, is_void, return_said, copy_said, effect_said, line_said, root_said}
use Rattle.wf_inputs.proofs.Shapes.{by_key, by_map, by_chain, by_test}

-- what the laws of names, members and decimals say
pub record WordLaws : Type 0 where
  pub name : (word name : List ℕ) → name_of word ≡ Some name → escaped name ≡ word
  pub printable : (word name : List ℕ) → name_of word ≡ Some name → is_word word ≡ true
  pub member : (word desc : List ℕ) (m : MemberName) → member_said word desc ≡ Some m → member_words m ≡ word ∷ desc ∷ []
  pub member_are : (word desc : List ℕ) (m : MemberName) → member_said word desc ≡ Some m → are_words (word ∷ desc ∷ []) ≡ true
  pub natural : (word : List ℕ) (n : ℕ) → natural_of word ≡ Some n → n < 2 ^ 64 → decimal n ≡ word
  pub natural_is : (word : List ℕ) (n : ℕ) → natural_of word ≡ Some n → is_word word ≡ true
  pub signed : (word : List ℕ) (z : ℤ) → integer_of word ≡ Some z → (pos 0 -ℤ pos (2 ^ 63)) ≤ℤ z → z ≤ℤ (pos (2 ^ 63) -ℤ pos 1) → signed_decimal z ≡ word
  pub signed_is : (word : List ℕ) (z : ℤ) → integer_of word ≡ Some z → is_word word ≡ true

-- the words are what is printed, and are printable
pub record IsSpelled (printed words : Words) : Type 0 where
  pub same : printed ≡ words
  pub are : are_words words ≡ true

nothing : IsSpelled [] []
nothing = record { same = refl; are = refl }

one : (a w : List ℕ) → a ≡ w → is_word w ≡ true → IsSpelled (a ∷ []) (w ∷ [])
one a w e is = record { same = ap (λ (x : List ℕ). x ∷ []) e; are = rw is refl }

behind : (key w : List ℕ) (printed words : Words) → w ≡ key → is_word key ≡ true → IsSpelled printed words → IsSpelled (key ∷ printed) (w ∷ words)
behind key w printed words is key_is rest =
    let same : is_word w ≡ true = ap is_word is ∙ key_is in
    record { same = ap (λ (x : List ℕ). x ∷ printed) (sym is) ∙ ap (λ (ws : Words). w ∷ ws) rest.same; are = rw (same, rest.are) refl }

all_both : (xs ys : Words) → are_words xs ≡ true → are_words ys ≡ true → are_words (xs ++ ys) ≡ true
all_both [] ys h k = k
all_both (x ∷ xs) ys h k =
    let parts = and_parts (is_word x) (are_words xs) h in
    rw (parts.0, all_both xs ys parts.1 k) refl

both : (a b c d : Words) → IsSpelled a b → IsSpelled c d → IsSpelled (a ++ c) (b ++ d)
both a b c d first second = record { same = ap (λ (ws : Words). ws ++ c) first.same ∙ ap (λ (ws : Words). b ++ ws) second.same; are = all_both b d first.are second.are }

at : {X : Type 0} (printed : X → Words) (x y : X) (words : Words) → x ≡ y → IsSpelled (printed x) words → IsSpelled (printed y) words
at {X} printed x y words e h = let P : X → Type 0 = λ z. IsSpelled (printed z) words in subst P e h

-- ---- parts

a_name : WordLaws → (w n : List ℕ) → name_of w ≡ Some n → IsSpelled (escaped n ∷ []) (w ∷ [])
a_name laws w n h = one (escaped n) w (laws.name w n h) (laws.printable w n h)

a_member : WordLaws → (w d : List ℕ) (m : MemberName) → member_said w d ≡ Some m → IsSpelled (member_words m) (w ∷ d ∷ [])
a_member laws w d m h = record { same = laws.member w d m h; are = laws.member_are w d m h }

an_argument : WordLaws → (w : List ℕ) (k : ℕ) → argument_of w ≡ Some k → IsSpelled (decimal k ∷ []) (w ∷ [])
an_argument laws w k h =
    option_and_then_some (at_most 254) (natural_of w) k h (λ n e l.
    let p = cond_some (leb n 254) n k l in
    let small : n ≤ 254 = leb-true n 254 p.0 in
    one (decimal k) w (ap decimal (sym p.1) ∙ laws.natural w n e (omega arith)) (laws.natural_is w n e))

in_range : (n : ℤ) → (int_le (pos 0 -ℤ pos (2 ^ 31)) n && int_le n (pos (2 ^ 31) -ℤ pos 1)) ≡ true → ((pos 0 -ℤ pos (2 ^ 63)) ≤ℤ n) × (n ≤ℤ (pos (2 ^ 63) -ℤ pos 1))
in_range n h = (grind (arith, ints), grind (arith, ints))

an_int : WordLaws → (w : List ℕ) (z : ℤ) → int_of w ≡ Some z → IsSpelled (signed_decimal z ∷ []) (w ∷ [])
an_int laws w z h =
    option_and_then_some (within (pos 0 -ℤ pos (2 ^ 31)) (pos (2 ^ 31) -ℤ pos 1)) (integer_of w) z h (λ n e l.
    let p = cond_some (int_le (pos 0 -ℤ pos (2 ^ 31)) n && int_le n (pos (2 ^ 31) -ℤ pos 1)) n z l in
    let r = in_range n p.0 in
    one (signed_decimal z) w (ap signed_decimal (sym p.1) ∙ laws.signed w n e r.0 r.1) (laws.signed_is w n e))

-- ---- values

lone : (w : List ℕ) (v : Value) → lone_value w ≡ Some v → IsSpelled (value_words v) (w ∷ [])
lone w v h =
    by_key w (codes "null") (Some Null) (keyed w (codes "any") (Some Any) None) v h
    (λ is k. at value_words Null v (w ∷ []) (same_Some Null v k) (behind (codes "null") w [] [] is refl nothing))
    (λ h2. by_key w (codes "any") (Some Any) None v h2 (λ is k. at value_words Any v (w ∷ []) (same_Some Any v k) (behind (codes "any") w [] [] is refl nothing)) (λ h3. absurd cc))

with : WordLaws → (w o : List ℕ) (v : Value) → value_with w o ≡ Some v → IsSpelled (value_words v) (w ∷ o ∷ [])
with laws w o v h =
    by_key w (codes "int") (option_map Int (int_of o)) _ v h
    (λ is k. by_map Int (int_of o) v k (λ z e s. at value_words (Int z) v (w ∷ o ∷ []) s (behind (codes "int") w (signed_decimal z ∷ []) (o ∷ []) is refl (an_int laws o z e))))
    (λ h2. by_key w (codes "new") (option_map New (name_of o)) _ v h2
    (λ is k. by_map New (name_of o) v k (λ n e s. at value_words (New n) v (w ∷ o ∷ []) s (behind (codes "new") w (escaped n ∷ []) (o ∷ []) is refl (a_name laws o n e))))
    (λ h3. by_key w (codes "some") (option_map OneOf (name_of o)) _ v h3
    (λ is k. by_map OneOf (name_of o) v k (λ n e s. at value_words (OneOf n) v (w ∷ o ∷ []) s (behind (codes "some") w (escaped n ∷ []) (o ∷ []) is refl (a_name laws o n e))))
    (λ h4. by_key w (codes "arg") (option_map Arg (argument_of o)) None v h4
    (λ is k. by_map Arg (argument_of o) v k (λ n e s. at value_words (Arg n) v (w ∷ o ∷ []) s (behind (codes "arg") w (decimal n ∷ []) (o ∷ []) is refl (an_argument laws o n e))))
    (λ h5. absurd cc))))

a_value : WordLaws → (ws : Words) (v : Value) → value_said ws ≡ Some v → IsSpelled (value_words v) ws
a_value laws [] v h = absurd cc
a_value laws (w ∷ []) v h = lone w v h
a_value laws (w ∷ o ∷ []) v h = with laws w o v h
a_value laws (w ∷ o ∷ u ∷ ws) v h = absurd cc

a_setting : WordLaws → (ws : Words) (s : MemberName × Value) → setting_said ws ≡ Some s → IsSpelled (setting_words s.0 s.1) ws
a_setting laws [] s h = absurd cc
a_setting laws (w ∷ []) s h = absurd cc
a_setting laws (w ∷ d ∷ ws) s h =
    by_chain (λ field. value_said ws >>= λ value. Some (field, value)) (member_said w d) s h
    (λ m e k. by_chain (λ value. Some (m, value)) (value_said ws) s k
    (λ v f l. at (λ (x : MemberName × Value). setting_words x.0 x.1) (m, v) s (w ∷ d ∷ ws) (same_Some (m, v) s l)
    (both (member_words m) (w ∷ d ∷ []) (value_words v) ws (a_member laws w d m e) (a_value laws ws v f))))

-- ---- effects

void : (ws : Words) → is_void ws ≡ true → IsSpelled (codes "void" ∷ []) ws
void [] h = absurd cc
void (w ∷ []) h = behind (codes "void") w [] [] ((bytes_eq-Decides w (codes "void")).0 h) refl nothing
void (w ∷ v ∷ ws) h = absurd cc

a_return : WordLaws → (w : List ℕ) (ws : Words) (e : Effect) → w ≡ codes "returns" → return_said ws ≡ Some e → IsSpelled (effect_words e) (w ∷ ws)
a_return laws w ws e is h =
    by_test (is_void ws) (Some ReturnsVoid) (option_map Returns (value_said ws)) e h
    (λ t k. at effect_words ReturnsVoid e (w ∷ ws) (same_Some ReturnsVoid e k) (behind (codes "returns") w (codes "void" ∷ []) ws is refl (void ws t)))
    (λ k. by_map Returns (value_said ws) e k (λ v f s. at effect_words (Returns v) e (w ∷ ws) s (behind (codes "returns") w (value_words v) ws is refl (a_value laws ws v f))))

a_copy : WordLaws → (w : List ℕ) (ws : Words) (e : Effect) → w ≡ codes "copies" → copy_said ws ≡ Some e → IsSpelled (effect_words e) (w ∷ ws)
a_copy laws w [] e is h = absurd cc
a_copy laws w (j ∷ []) e is h = absurd cc
a_copy laws w (j ∷ k ∷ []) e is h =
    by_chain (λ a. argument_of k >>= λ b. Some (Copies a b)) (argument_of j) e h
    (λ a f m. by_chain (λ b. Some (Copies a b)) (argument_of k) e m
    (λ b g s. at effect_words (Copies a b) e (w ∷ j ∷ k ∷ []) (same_Some (Copies a b) e s)
    (behind (codes "copies") w (decimal a ∷ decimal b ∷ []) (j ∷ k ∷ []) is refl (both (decimal a ∷ []) (j ∷ []) (decimal b ∷ []) (k ∷ []) (an_argument laws j a f) (an_argument laws k b g)))))
a_copy laws w (j ∷ k ∷ u ∷ ws) e is h = absurd cc

one_name : WordLaws → (ws : Words) (n : List ℕ) → name_said ws ≡ Some n → IsSpelled (escaped n ∷ []) ws
one_name laws [] n h = absurd cc
one_name laws (w ∷ []) n h = a_name laws w n h
one_name laws (w ∷ v ∷ ws) n h = absurd cc

one_method : WordLaws → (ws : Words) (m : MemberName) → method_said ws ≡ Some m → IsSpelled (member_words m) ws
one_method laws [] m h = absurd cc
one_method laws (w ∷ []) m h = absurd cc
one_method laws (w ∷ d ∷ []) m h = a_member laws w d m h
one_method laws (w ∷ d ∷ v ∷ ws) m h = absurd cc

an_effect : WordLaws → (w : List ℕ) (ws : Words) (e : Effect) → effect_said w ws ≡ Some e → IsSpelled (effect_words e) (w ∷ ws)
an_effect laws w ws e h =
    by_key w (codes "returns") (return_said ws) _ e h (λ is k. a_return laws w ws e is k)
    (λ h2. by_key w (codes "makes") (option_map Makes (name_said ws)) _ e h2
    (λ is k. by_map Makes (name_said ws) e k (λ n f s. at effect_words (Makes n) e (w ∷ ws) s (behind (codes "makes") w (escaped n ∷ []) ws is refl (one_name laws ws n f))))
    (λ h3. by_key w (codes "writes") (option_map (λ (s : MemberName × Value). Writes s.0 s.1) (setting_said ws)) _ e h3
    (λ is k. by_map (λ (s : MemberName × Value). Writes s.0 s.1) (setting_said ws) e k
    (λ x f s. at effect_words (Writes x.0 x.1) e (w ∷ ws) s (behind (codes "writes") w (setting_words x.0 x.1) ws is refl (a_setting laws ws x f))))
    (λ h4. by_key w (codes "copies") (copy_said ws) None e h4 (λ is k. a_copy laws w ws e is k) (λ h5. absurd cc))))

-- ---- lines

pub a_line : WordLaws → (ws : Words) (s : Said) → line_said ws ≡ Some s → IsSpelled (said_words s) ws
a_line laws [] s h = absurd cc
a_line laws (w ∷ ws) s h =
    by_key w (codes "method") (option_map (Opens false) (method_said ws)) _ s h
    (λ is k. by_map (Opens false) (method_said ws) s k (λ m f e. at said_words (Opens false m) s (w ∷ ws) e (behind (codes "method") w (member_words m) ws is refl (one_method laws ws m f))))
    (λ h2. by_key w (codes "replace") (option_map (Opens true) (method_said ws)) _ s h2
    (λ is k. by_map (Opens true) (method_said ws) s k (λ m f e. at said_words (Opens true m) s (w ∷ ws) e (behind (codes "replace") w (member_words m) ws is refl (one_method laws ws m f))))
    (λ h3. by_key w (codes "literal") (option_map (λ (x : MemberName × Value). Sets x.0 x.1) (setting_said ws)) _ s h3
    (λ is k. by_map (λ (x : MemberName × Value). Sets x.0 x.1) (setting_said ws) s k
    (λ x f e. at said_words (Sets x.0 x.1) s (w ∷ ws) e (behind (codes "literal") w (setting_words x.0 x.1) ws is refl (a_setting laws ws x f))))
    (λ h4. by_map Does (effect_said w ws) s h4 (λ e f m. at said_words (Does e) s (w ∷ ws) m (an_effect laws w ws e f)))))

pub a_root : WordLaws → (ws : Words) (r : Root) → root_said ws ≡ Some r → IsSpelled (root_words r) ws
a_root laws [] r h = absurd cc
a_root laws (w ∷ ws) r h =
    by_key w (codes "static") (option_map StaticCall (method_said ws)) _ r h
    (λ is k. by_map StaticCall (method_said ws) r k (λ m f e. at root_words (StaticCall m) r (w ∷ ws) e (behind (codes "static") w (member_words m) ws is refl (one_method laws ws m f))))
    (λ h2. by_key w (codes "inst") (option_map Inst (name_said ws)) _ r h2
    (λ is k. by_map Inst (name_said ws) r k (λ n f e. at root_words (Inst n) r (w ∷ ws) e (behind (codes "inst") w (escaped n ∷ []) ws is refl (one_name laws ws n f))))
    (λ h3. by_key w (codes "make") (option_map Make (name_said ws)) None r h3
    (λ is k. by_map Make (name_said ws) r k (λ n f e. at root_words (Make n) r (w ∷ ws) e (behind (codes "make") w (escaped n ∷ []) ws is refl (one_name laws ws n f)))) (λ h4. absurd cc)))

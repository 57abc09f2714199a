-- What was said, taken apart, and how many words say it.
use Rattle.std.proofs.Common.{◌≡◌, ℕ, ◌<◌, ◌≤◌, Bool, true, false, cond, List, [], ◌∷◌, length, Option, Some, None, refl, arith}
use Rattle.std.proofs.lemmas.Slice.Eq.{bytes_eq-Decides}
use Rattle.std.specs.Prelude.{option_map, codes}
use Rattle.std.specs.Str.{bytes_eq}
use Rattle.wf_names.specs.declared.member.MemberName.{MemberName}
use Rattle.wf_names.specs.declared.root.Root.{Root}
use Rattle.wf_names.specs.declared.root.Root.TheVariants.{StaticCall, Inst, Make}
use Rattle.wf_lines.specs.Members.{◌>>=◌, member_said}
use Rattle.wf_inputs.specs.declared.said.Said.{Said}
use Rattle.wf_inputs.specs.declared.said.Said.TheVariants.{Opens, Does, Sets}
use Rattle.wf_inputs.specs.declared.summary.Effect.{Effect}
use Rattle.wf_inputs.specs.declared.summary.Effect.TheVariants.{ReturnsVoid, Returns, Makes, Writes}
use Rattle.wf_inputs.specs.declared.summary.Value.{Value}
use Rattle.wf_inputs.specs.Saying.{Words, keyed, name_said, method_said, value_said, setting_said, is_void, return_said, copy_said, effect_said, line_said, root_said}

pub by_key : {X P : Type 0} (word key : List ℕ) (x y : Option X) (v : X) → keyed word key x y ≡ Some v → (word ≡ key → x ≡ Some v → P) → (y ≡ Some v → P) → P
by_key {X} {P} word key x y v h when other = go (bytes_eq word key) refl h
  where
    go : (t : Bool) → bytes_eq word key ≡ t → cond t x y ≡ Some v → P
    go true e k = when ((bytes_eq-Decides word key).0 e) k
    go false e k = other k

pub by_map : {X Y P : Type 0} (f : X → Y) (o : Option X) (y : Y) → option_map f o ≡ Some y → ((x : X) → o ≡ Some x → f x ≡ y → P) → P
by_map f None y h go = absurd cc
by_map f (Some x) y h go = go x refl cc

pub by_chain : {X Y P : Type 0} (f : X → Option Y) (o : Option X) (y : Y) → (o >>= f) ≡ Some y → ((x : X) → o ≡ Some x → f x ≡ Some y → P) → P
by_chain f None y h go = absurd cc
by_chain f (Some x) y h go = go x refl h

pub by_test : {X P : Type 0} (t : Bool) (x y : Option X) (v : X) → cond t x y ≡ Some v → (t ≡ true → x ≡ Some v → P) → (y ≡ Some v → P) → P
by_test true x y v h when other = when refl h
by_test false x y v h when other = other h

-- ---- how many words

name_length : (ws : Words) (n : List ℕ) → name_said ws ≡ Some n → length ws ≤ 1
name_length [] n h = omega arith
name_length (w ∷ []) n h = omega arith
name_length (w ∷ v ∷ ws) n h = absurd cc

method_length : (ws : Words) (m : MemberName) → method_said ws ≡ Some m → length ws ≤ 2
method_length [] m h = omega arith
method_length (w ∷ []) m h = omega arith
method_length (w ∷ d ∷ []) m h = omega arith
method_length (w ∷ d ∷ v ∷ ws) m h = absurd cc

value_length : (ws : Words) (v : Value) → value_said ws ≡ Some v → length ws ≤ 2
value_length [] v h = omega arith
value_length (w ∷ []) v h = omega arith
value_length (w ∷ o ∷ []) v h = omega arith
value_length (w ∷ o ∷ u ∷ ws) v h = absurd cc

setting_length : (ws : Words) (s : MemberName × Value) → setting_said ws ≡ Some s → length ws ≤ 4
setting_length [] s h = omega arith
setting_length (w ∷ []) s h = omega arith
setting_length (w ∷ d ∷ ws) s h =
    by_chain (λ field. value_said ws >>= λ value. Some (field, value)) (member_said w d) s h
    (λ m e k. by_chain (λ value. Some (m, value)) (value_said ws) s k (λ v f l. omega (arith, value_length ws v f)))

void_length : (ws : Words) → is_void ws ≡ true → length ws ≤ 2
void_length [] h = omega arith
void_length (w ∷ []) h = omega arith
void_length (w ∷ v ∷ ws) h = absurd cc

return_length : (ws : Words) (e : Effect) → return_said ws ≡ Some e → length ws ≤ 2
return_length ws e h =
    by_test (is_void ws) (Some ReturnsVoid) (option_map Returns (value_said ws)) e h (λ t k. void_length ws t)
    (λ k. by_map Returns (value_said ws) e k (λ v f l. value_length ws v f))

copy_length : (ws : Words) (e : Effect) → copy_said ws ≡ Some e → length ws ≤ 2
copy_length [] e h = omega arith
copy_length (j ∷ []) e h = omega arith
copy_length (j ∷ k ∷ []) e h = omega arith
copy_length (j ∷ k ∷ w ∷ ws) e h = absurd cc

effect_length : (w : List ℕ) (ws : Words) (e : Effect) → effect_said w ws ≡ Some e → length ws ≤ 4
effect_length w ws e h =
    by_key w (codes "returns") (return_said ws) _ e h (λ is k. omega (arith, return_length ws e k))
    (λ h2. by_key w (codes "makes") (option_map Makes (name_said ws)) _ e h2 (λ is k. by_map Makes (name_said ws) e k (λ n f l. omega (arith, name_length ws n f)))
    (λ h3. by_key w (codes "writes") (option_map (λ (s : MemberName × Value). Writes s.0 s.1) (setting_said ws)) _ e h3 (λ is k. by_map (λ (s : MemberName × Value). Writes s.0 s.1) (setting_said ws) e k (λ s f l. setting_length ws s f))
    (λ h4. by_key w (codes "copies") (copy_said ws) None e h4 (λ is k. omega (arith, copy_length ws e k)) (λ h5. absurd cc))))

line_length : (ws : Words) (s : Said) → line_said ws ≡ Some s → length ws ≤ 5
line_length [] s h = omega arith
line_length (w ∷ ws) s h =
    by_key w (codes "method") (option_map (Opens false) (method_said ws)) _ s h (λ is k. by_map (Opens false) (method_said ws) s k (λ m f l. omega (arith, method_length ws m f)))
    (λ h2. by_key w (codes "replace") (option_map (Opens true) (method_said ws)) _ s h2 (λ is k. by_map (Opens true) (method_said ws) s k (λ m f l. omega (arith, method_length ws m f)))
    (λ h3. by_key w (codes "literal") (option_map (λ (x : MemberName × Value). Sets x.0 x.1) (setting_said ws)) _ s h3 (λ is k. by_map (λ (x : MemberName × Value). Sets x.0 x.1) (setting_said ws) s k (λ x f l. omega (arith, setting_length ws x f)))
    (λ h4. by_map Does (effect_said w ws) s h4 (λ e f l. omega (arith, effect_length w ws e f)))))

root_length : (ws : Words) (r : Root) → root_said ws ≡ Some r → length ws ≤ 3
root_length [] r h = omega arith
root_length (w ∷ ws) r h =
    by_key w (codes "static") (option_map StaticCall (method_said ws)) _ r h (λ is k. by_map StaticCall (method_said ws) r k (λ m f l. omega (arith, method_length ws m f)))
    (λ h2. by_key w (codes "inst") (option_map Inst (name_said ws)) _ r h2 (λ is k. by_map Inst (name_said ws) r k (λ n f l. omega (arith, name_length ws n f)))
    (λ h3. by_key w (codes "make") (option_map Make (name_said ws)) None r h3 (λ is k. by_map Make (name_said ws) r k (λ n f l. omega (arith, name_length ws n f))) (λ h4. absurd cc)))

too_long : {X : Type 0} (said : Words → Option X) (ws : Words) (most : ℕ) → ((x : X) → said ws ≡ Some x → length ws ≤ most) → most < length ws → said ws ≡ None
too_long {X} said ws most short lt = go (said ws) refl
  where
    go : (o : Option X) → said ws ≡ o → o ≡ None
    go None e = refl
    go (Some x) e = absurd (omega (arith, short x e))

pub long_line : (ws : Words) → 5 < length ws → line_said ws ≡ None
long_line ws lt = too_long line_said ws 5 (line_length ws) lt

pub long_root : (ws : Words) → 3 < length ws → root_said ws ≡ None
long_root ws lt = too_long root_said ws 3 (root_length ws) lt

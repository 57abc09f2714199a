-- A call has one answer.
use Rattle.std.proofs.Common.{◌≡◌, ◌∙◌, ℕ, Bool, true, false, List, Option, Some, refl, sym, ap, subst}
use Rattle.std.specs.List.{find}
use Rattle.std.specs.Str.{bytes_eq}
use Rattle.std.proofs.lemmas.Option.{same_Some}
use Rattle.wf_base.specs.declared.ids.MethodId.{MethodId}
use Rattle.wf_data.specs.Flags.{is_abstract}
use Rattle.wf_data.specs.declared.class_info.ClassInfo.{ClassInfo}
use Rattle.wf_data.specs.declared.class_info.MethodInfo.{MethodInfo}
use Rattle.wf_grammar.specs.ClassFile.{Key}
use Rattle.wf_names.specs.Names.{constructor_name}
use Rattle.wf_classes.proofs.OneMember.{is_in, one_member}
use Rattle.wf_classes.specs.Members.{method_key, method_keys, method_number}
use Rattle.wf_classes.specs.Own.{IsMethod, methods_at, is_method_of, method_flags}
use Rattle.wf_classes.specs.World.{kind_at}
use Rattle.wf_resolve.proofs.OneAnswer.{one_first}
use Rattle.wf_resolve.specs.Inherited.{IsDefault, IsOnly, AreTwo}
use Rattle.wf_resolve.specs.Upward.{Offers}
use Rattle.wf_resolve.specs.declared.upward.Wanted.TheVariants.{OfInstance}
use Rattle.wf_select.specs.Overriding.{Overrides}
use Rattle.wf_select.specs.Selection as sel
use Rattle.wf_select.specs.Selection.{Taken, FirstBy, Selects, StartsAt, FirstSpecial, Special}
use Rattle.wf_select.specs.declared.outcome.Invoke.{Invoke}
use Rattle.wf_select.specs.declared.outcome.Invoke.TheVariants.{Virtual, Interface}
use Rattle.wf_select.specs.declared.outcome.Selected.{Selected}
use Rattle.wf_select.specs.declared.outcome.Selected.TheVariants as selected

both_ways : (b : Bool) → b ≡ true → b ≡ false → ⊥
both_ways b e f = cc

same_method : (f g : MethodId) → f.0 ≡ g.0 → f ≡ g
same_method f g e = let id : ℕ → MethodId = λ n. record { 0 = n } in ap id e

-- a number is that of one method, as one class declares it
pub record IsOneMethod (c d : ℕ) (f g : MethodInfo) : Type 0 where
  pub class : c ≡ d
  pub info : f ≡ g

pub one_method : (classes : List ClassInfo) (n c d : ℕ) (f g : MethodInfo) → IsMethod classes n c f → IsMethod classes n d g → IsOneMethod c d f g
one_method classes n c d f g h k =
    let same = one_member (method_keys classes) n c d (method_key f) (method_key g) (is_in (method_keys classes) n c (method_key f) h.number) (is_in (method_keys classes) n d (method_key g) k.number) in
    record {
      class = same.0;
      info = same_Some f g (sym h.there ∙ (ap (λ x. find (is_method_of (method_key f)) (methods_at classes x)) same.0 ∙ (ap (λ (q : Key). find (is_method_of q) (methods_at classes d)) same.1 ∙ k.there)));
    }

-- ---- what is taken

same_number : (classes : List ClassInfo) (key : Key) (c d : ℕ) (m n : MethodId) → c ≡ d → method_number classes c key.0 key.1 ≡ Some m.0 → method_number classes d key.0 key.1 ≡ Some n.0 → (let r : Selected = selected.Method m in let q : Selected = selected.Method n in r ≡ q)
same_number classes key c d m n same e f = ap (λ (x : MethodId). selected.Method x) (same_method m n (same_Some m.0 n.0 (sym e ∙ (ap (λ x. method_number classes x key.0 key.1) same ∙ f))))

two_flags : (classes : List ClassInfo) (key : Key) (d f g : ℕ) → method_flags classes key d ≡ Some f → method_flags classes key d ≡ Some g → is_abstract f ≡ true → is_abstract g ≡ false → ⊥
two_flags classes key d f g h k e n = both_ways (is_abstract f) e (ap is_abstract (same_Some f g (sym h ∙ k)) ∙ n)

one_and_two : (P : ℕ → Type 0) (i : ℕ) → IsOnly P i → AreTwo P → ⊥
one_and_two P i h k = k.apart (h.only k.first k.one ∙ sym (h.only k.second k.other))

one_taken : (classes : List ClassInfo) (key : Key) (c : ℕ) (r : Option ℕ) (a b : Selected) → Taken classes key c r a → Taken classes key c r b → a ≡ b
one_taken classes key c r a b (sel.concrete d f m h n e) (sel.concrete x g o k p q) = same_number classes key d d m o refl e q
one_taken classes key c r a b (sel.concrete d f m h n e) (sel.abstract x g k p) = absurd (two_flags classes key d g f k h p n)
one_taken classes key c r a b (sel.abstract d f h n) (sel.concrete x g o k p q) = absurd (two_flags classes key d f g h k n p)
one_taken classes key c r a b (sel.abstract d f h n) (sel.abstract x g k p) = refl
one_taken classes key c r a b (sel.by_default i m h e) (sel.by_default j n k f) = same_number classes key i j m n (k.only i h.is) e f
one_taken classes key c r a b (sel.by_default i m h e) (sel.no_default n) = absurd (n i h.is)
one_taken classes key c r a b (sel.by_default i m h e) (sel.many_defaults k) = absurd (one_and_two (IsDefault classes key c) i h k)
one_taken classes key c r a b (sel.no_default n) (sel.by_default j m k f) = absurd (n j k.is)
one_taken classes key c r a b (sel.no_default n) (sel.no_default m) = refl
one_taken classes key c r a b (sel.no_default n) (sel.many_defaults k) = absurd (n k.first k.one)
one_taken classes key c r a b (sel.many_defaults h) (sel.by_default j m k f) = absurd (one_and_two (IsDefault classes key c) j k h)
one_taken classes key c r a b (sel.many_defaults h) (sel.no_default n) = absurd (n h.first h.one)
one_taken classes key c r a b (sel.many_defaults h) (sel.many_defaults k) = refl

-- ---- searches

one_first_by : (classes : List ClassInfo) (key : Key) (d : ℕ) (by : Invoke) (t : ℕ) (r q : Option ℕ) → FirstBy classes key d by t r → FirstBy classes key d by t q → r ≡ q
one_first_by classes key d Virtual t r q h k = one_first classes (λ c. Overrides classes key c d) t r q h k
one_first_by classes key d Interface t r q h k = one_first classes (Offers classes key OfInstance) t r q h k

pub one_selected : (classes : List ClassInfo) (t m : ℕ) (by : Invoke) (a b : Selected) → Selects classes t m by a → Selects classes t m by b → a ≡ b
one_selected classes t m by a b h k =
    let same = one_method classes m k.class h.class k.info h.info k.is h.is in
    let search : FirstBy classes (method_key h.info) h.class by t k.first =
    subst (λ (x : ℕ). FirstBy classes (method_key h.info) x by t k.first) same.class (subst (λ (i : MethodInfo). FirstBy classes (method_key i) k.class by t k.first) same.info k.search) in
    let first = one_first_by classes (method_key h.info) h.class by t k.first h.first search h.search in
    one_taken classes (method_key h.info) t h.first a b h.taken
    (subst (λ (r : Option ℕ). Taken classes (method_key h.info) t r b) first (subst (λ (i : MethodInfo). Taken classes (method_key i) t k.first b) same.info k.taken))

-- ---- invokespecial

two_kinds : (classes : List ClassInfo) (c : ℕ) → kind_at classes c ≡ Some true → kind_at classes c ≡ Some false → ⊥
two_kinds classes c e f = clash (same_Some true false (sym e ∙ f)) where
  clash : true ≡ false → ⊥
  clash e = cc

one_start : (classes : List ClassInfo) (name : List ℕ) (c n : ℕ) (s t : ℕ) → StartsAt classes name c n s → StartsAt classes name c n t → s ≡ t
one_start classes name c n s t (sel.above_current x e k h f) (sel.above_current y g l i j) = same_Some x y (sym f ∙ j)
one_start classes name c n s t (sel.above_current x e k h f) (sel.of_constructor g) = absurd (both_ways (bytes_eq name constructor_name) g e)
one_start classes name c n s t (sel.above_current x e k h f) (sel.of_interface g) = absurd (two_kinds classes n g k)
one_start classes name c n s t (sel.above_current x e k h f) (sel.of_no_superclass g) = absurd (g h)
one_start classes name c n s t (sel.of_constructor e) (sel.above_current y g l i j) = absurd (both_ways (bytes_eq name constructor_name) e g)
one_start classes name c n s t (sel.of_constructor e) (sel.of_constructor g) = refl
one_start classes name c n s t (sel.of_constructor e) (sel.of_interface g) = refl
one_start classes name c n s t (sel.of_constructor e) (sel.of_no_superclass g) = refl
one_start classes name c n s t (sel.of_interface e) (sel.above_current y g l i j) = absurd (two_kinds classes n e l)
one_start classes name c n s t (sel.of_interface e) (sel.of_constructor g) = refl
one_start classes name c n s t (sel.of_interface e) (sel.of_interface g) = refl
one_start classes name c n s t (sel.of_interface e) (sel.of_no_superclass g) = refl
one_start classes name c n s t (sel.of_no_superclass e) (sel.above_current y g l i j) = absurd (e i)
one_start classes name c n s t (sel.of_no_superclass e) (sel.of_constructor g) = refl
one_start classes name c n s t (sel.of_no_superclass e) (sel.of_interface g) = refl
one_start classes name c n s t (sel.of_no_superclass e) (sel.of_no_superclass g) = refl

one_first_special : (classes : List ClassInfo) (key : Key) (c : ℕ) (r q : Option ℕ) → FirstSpecial classes key c r → FirstSpecial classes key c q → r ≡ q
one_first_special classes key c r q (sel.of_class x e h) (sel.of_class y f k) = one_first classes (Offers classes key OfInstance) c x y h k
one_first_special classes key c r q (sel.of_class x e h) (sel.own f k) = absurd (two_kinds classes c f e)
one_first_special classes key c r q (sel.of_class x e h) (sel.by_object o f n k) = absurd (two_kinds classes c f e)
one_first_special classes key c r q (sel.of_class x e h) (sel.nothing f n k) = absurd (two_kinds classes c f e)
one_first_special classes key c r q (sel.own e h) (sel.of_class y f k) = absurd (two_kinds classes c e f)
one_first_special classes key c r q (sel.own e h) (sel.own f k) = refl
one_first_special classes key c r q (sel.own e h) (sel.by_object o f n k) = absurd (n h)
one_first_special classes key c r q (sel.own e h) (sel.nothing f n k) = absurd (n h)
one_first_special classes key c r q (sel.by_object o e n h) (sel.of_class y f k) = absurd (two_kinds classes c e f)
one_first_special classes key c r q (sel.by_object o e n h) (sel.own f k) = absurd (n k)
one_first_special classes key c r q (sel.by_object o e n h) (sel.by_object p f m k) = sym h.object ∙ k.object
one_first_special classes key c r q (sel.by_object o e n h) (sel.nothing f m k) = absurd (k o h)
one_first_special classes key c r q (sel.nothing e n h) (sel.of_class y f k) = absurd (two_kinds classes c e f)
one_first_special classes key c r q (sel.nothing e n h) (sel.own f k) = absurd (n k)
one_first_special classes key c r q (sel.nothing e n h) (sel.by_object p f m k) = absurd (h p k)
one_first_special classes key c r q (sel.nothing e n h) (sel.nothing f m k) = refl

pub one_special : (classes : List ClassInfo) (current named m : ℕ) (a b : Selected) → Special classes current named m a → Special classes current named m b → a ≡ b
one_special classes current named m a b h k =
    let same = one_method classes m k.class h.class k.info h.info k.is h.is in
    let start : k.start ≡ h.start = one_start classes h.info.name current named k.start h.start (subst (λ (i : MethodInfo). StartsAt classes i.name current named k.start) same.info k.starts) h.starts in
    let search : FirstSpecial classes (method_key h.info) h.start k.first =
    subst (λ (x : ℕ). FirstSpecial classes (method_key h.info) x k.first) start (subst (λ (i : MethodInfo). FirstSpecial classes (method_key i) k.start k.first) same.info k.search) in
    let first = one_first_special classes (method_key h.info) h.start k.first h.first search h.search in
    one_taken classes (method_key h.info) h.start h.first a b h.taken
    (subst (λ (r : Option ℕ). Taken classes (method_key h.info) h.start r b) first
    (subst (λ (x : ℕ). Taken classes (method_key h.info) x k.first b) start (subst (λ (i : MethodInfo). Taken classes (method_key i) k.start k.first b) same.info k.taken)))

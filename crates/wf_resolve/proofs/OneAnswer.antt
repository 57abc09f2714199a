-- Each search has one answer.
use Rattle.std.proofs.Common.{◌≡◌, ◌∙◌, ℕ, true, false, List, Option, Some, None, Result, Ok, refl, sym, ap, subst, arith, inl, inr}
use Rattle.std.specs.Prelude.{slice_get}
use Rattle.std.proofs.lemmas.Bool.{cases_lt}
use Rattle.std.proofs.lemmas.Option.{same_Some}
use Rattle.wf_base.specs.declared.ids.FieldId.{FieldId}
use Rattle.wf_base.specs.declared.ids.MethodId.{MethodId}
use Rattle.wf_data.specs.declared.class_info.ClassInfo.{ClassInfo}
use Rattle.wf_grammar.specs.ClassFile.{Key}
use Rattle.wf_names.specs.declared.world.LinkError.{LinkError}
use Rattle.wf_classes.specs.Members.{field_number, method_number}
use Rattle.wf_classes.specs.World.{superclass_of, kind_at}
use Rattle.wf_resolve.specs.Fields as fields
use Rattle.wf_resolve.specs.Fields.{FieldOf, places_behind}
use Rattle.wf_resolve.specs.Inherited.{FromInterfaces, by_default, by_number, by_none}
use Rattle.wf_resolve.specs.Methods as methods
use Rattle.wf_resolve.specs.Methods.{MethodOfClass, MethodOfInterface, IsOfObject}
use Rattle.wf_resolve.specs.Resolution as res
use Rattle.wf_resolve.specs.Resolution.{Field, Method, InterfaceMethod}
use Rattle.wf_resolve.specs.Upward.{FirstUp, found, passed, ended, Offers}
use Rattle.wf_resolve.specs.declared.upward.Wanted.TheVariants.{Any}

some_none : {A : Type 0} (o : Option A) (x : A) → o ≡ Some x → o ≡ None → ⊥
some_none o x e f = cc

pub one_first : (classes : List ClassInfo) (P : ℕ → Type 0) (c : ℕ) (r q : Option ℕ) → FirstUp classes P c r → FirstUp classes P c q → r ≡ q
one_first classes P c r q (found x h) (found y k) = refl
one_first classes P c r q (found x h) (passed y s z n e k) = absurd (n h)
one_first classes P c r q (found x h) (ended y n e) = absurd (n h)
one_first classes P c r q (passed x s w n e h) (found y k) = absurd (n k)
one_first classes P c r q (passed x s w n e h) (passed y t z m f k) = one_first classes P s w z h (subst (λ i. FirstUp classes P i z) (same_Some t s (sym f ∙ e)) k)
one_first classes P c r q (passed x s w n e h) (ended y m f) = absurd (some_none (superclass_of classes x) s e f)
one_first classes P c r q (ended x n e) (found y k) = absurd (n k)
one_first classes P c r q (ended x n e) (passed y t z m f k) = absurd (some_none (superclass_of classes x) t f e)
one_first classes P c r q (ended x n e) (ended y m f) = refl

pub one_field : (classes : List ClassInfo) (key : Key) (c : ℕ) (r q : Option ℕ) → FieldOf classes key c r → FieldOf classes key c q → r ≡ q
one_field classes key c r q (fields.own x f e) (fields.own y g k) = refl
one_field classes key c r q (fields.own x f e) (fields.behind y i s d n t h k) = absurd (some_none (field_number classes x key.0 key.1) f e n)
one_field classes key c r q (fields.own x f e) (fields.nowhere y n h) = absurd (some_none (field_number classes x key.0 key.1) f e n)
one_field classes key c r q (fields.behind x i s d n t h k) (fields.own y g e) = absurd (some_none (field_number classes x key.0 key.1) g e n)
one_field classes key c r q (fields.behind x i s d n t h k) (fields.behind y j u b m v l w) =
    elim (cases_lt i j) [
      | inl low ↦ absurd (some_none (Some d) d refl (one_field classes key s (Some d) None k (l i s low t)))
      | inr high ↦ elim (cases_lt j i) [
        | inl low ↦ absurd (some_none None b (one_field classes key u None (Some b) (h j u low v) w) refl)
        | inr other ↦ (let same : j ≡ i = omega arith in
            let there : u ≡ s = same_Some u s (sym v ∙ ap (slice_get (places_behind classes x)) same ∙ t) in
            one_field classes key s (Some d) (Some b) k (subst (λ z. FieldOf classes key z (Some b)) there w))
      ]
    ]
one_field classes key c r q (fields.behind x i s d n t h k) (fields.nowhere y m l) = absurd (some_none (Some d) d refl (one_field classes key s (Some d) None k (l i s t)))
one_field classes key c r q (fields.nowhere x n h) (fields.own y g e) = absurd (some_none (field_number classes x key.0 key.1) g e n)
one_field classes key c r q (fields.nowhere x n h) (fields.behind y j u b m v l w) = absurd (some_none None b (one_field classes key u None (Some b) (h j u v) w) refl)
one_field classes key c r q (fields.nowhere x n h) (fields.nowhere y m l) = refl

pub one_interface : (classes : List ClassInfo) (key : Key) (c : ℕ) (r q : Option ℕ) → FromInterfaces classes key c r → FromInterfaces classes key c q → r ≡ q
one_interface classes key c r q (by_default i h) (by_default j k) = ap (λ x. Some x) (k.only i h.is)
one_interface classes key c r q (by_default i h) (by_number j n k) = absurd (n i h)
one_interface classes key c r q (by_default i h) (by_none n) = absurd (n i h.is.top.offer)
one_interface classes key c r q (by_number i n h) (by_default j k) = absurd (n j k)
one_interface classes key c r q (by_number i n h) (by_number j m k) = elim (cases_lt i j) [
  | inl low ↦ absurd (k.least i low h.is)
  | inr high ↦ elim (cases_lt j i) [
    | inl low ↦ absurd (h.least j low k.is)
    | inr other ↦ (let same : i ≡ j = omega arith in ap (λ x. Some x) same)
  ]
]
one_interface classes key c r q (by_number i n h) (by_none m) = absurd (m i h.is)
one_interface classes key c r q (by_none n) (by_default j k) = absurd (n j k.is.top.offer)
one_interface classes key c r q (by_none n) (by_number j m k) = absurd (n j k.is)
one_interface classes key c r q (by_none n) (by_none m) = refl

pub one_of_class : (classes : List ClassInfo) (key : Key) (c : ℕ) (r q : Option ℕ) → MethodOfClass classes key c r → MethodOfClass classes key c q → r ≡ q
one_of_class classes key c r q (methods.by_class d h) (methods.by_class e k) = one_first classes (Offers classes key Any) c (Some d) (Some e) h k
one_of_class classes key c r q (methods.by_class d h) (methods.by_interface z k l) = absurd (some_none (Some d) d refl (one_first classes (Offers classes key Any) c (Some d) None h k))
one_of_class classes key c r q (methods.by_interface w h g) (methods.by_class e k) = absurd (some_none (Some e) e refl (one_first classes (Offers classes key Any) c (Some e) None k h))
one_of_class classes key c r q (methods.by_interface w h g) (methods.by_interface z k l) = one_interface classes key c w z g l

pub one_of_interface : (classes : List ClassInfo) (key : Key) (c : ℕ) (r q : Option ℕ) → MethodOfInterface classes key c r → MethodOfInterface classes key c q → r ≡ q
one_of_interface classes key c r q (methods.own h) (methods.own k) = refl
one_of_interface classes key c r q (methods.own h) (methods.by_object o n k) = absurd (n h)
one_of_interface classes key c r q (methods.own h) (methods.by_interface z n m k) = absurd (n h)
one_of_interface classes key c r q (methods.by_object o n h) (methods.own k) = absurd (n k)
one_of_interface classes key c r q (methods.by_object o n h) (methods.by_object p m k) = sym h.object ∙ k.object
one_of_interface classes key c r q (methods.by_object o n h) (methods.by_interface z m l k) = absurd (l o h)
one_of_interface classes key c r q (methods.by_interface w n m h) (methods.own k) = absurd (n k)
one_of_interface classes key c r q (methods.by_interface w n m h) (methods.by_object p l k) = absurd (m p k)
one_of_interface classes key c r q (methods.by_interface w n m h) (methods.by_interface z l i k) = one_interface classes key c w z h k

-- ---- names

same_field : (f g : FieldId) → f.0 ≡ g.0 → f ≡ g
same_field f g e = let id : ℕ → FieldId = λ n. record { 0 = n } in ap id e

same_method : (f g : MethodId) → f.0 ≡ g.0 → f ≡ g
same_method f g e = let id : ℕ → MethodId = λ n. record { 0 = n } in ap id e

pub field_means_one : (classes : List ClassInfo) (class : List ℕ) (key : Key) (a b : Result FieldId LinkError) → Field classes class key a → Field classes class key b → a ≡ b
field_means_one classes class key a b (res.no_class e) (res.no_class f) = refl
field_means_one classes class key a b (res.no_class e) (res.found c d m f k n) = absurd (some_none (res.class_with classes class) c f e)
field_means_one classes class key a b (res.no_class e) (res.no_field c f k) = absurd (some_none (res.class_with classes class) c f e)
field_means_one classes class key a b (res.found c d m e h n) (res.no_class f) = absurd (some_none (res.class_with classes class) c e f)
field_means_one classes class key a b (res.found c d m e h n) (res.found x y z f k o) =
    let here : x ≡ c = same_Some x c (sym f ∙ e) in
    let same : d ≡ y = same_Some d y (one_field classes key c (Some d) (Some y) h (subst (λ i. FieldOf classes key i (Some y)) here k)) in
    ap (λ (i : FieldId). Ok i) (same_field m z (same_Some m.0 z.0 (sym n ∙ (ap (λ i. field_number classes i key.0 key.1) same ∙ o))))
field_means_one classes class key a b (res.found c d m e h n) (res.no_field x f k) =
    let here : x ≡ c = same_Some x c (sym f ∙ e) in
    absurd (some_none (Some d) d refl (one_field classes key c (Some d) None h (subst (λ i. FieldOf classes key i None) here k)))
field_means_one classes class key a b (res.no_field c e h) (res.no_class f) = absurd (some_none (res.class_with classes class) c e f)
field_means_one classes class key a b (res.no_field c e h) (res.found x y z f k o) =
    let here : x ≡ c = same_Some x c (sym f ∙ e) in
    absurd (some_none (Some y) y refl (one_field classes key c (Some y) None (subst (λ i. FieldOf classes key i (Some y)) here k) h))
field_means_one classes class key a b (res.no_field c e h) (res.no_field x f k) = refl

two_kinds : (classes : List ClassInfo) (c d : ℕ) → c ≡ d → kind_at classes c ≡ Some true → kind_at classes d ≡ Some false → ⊥
two_kinds classes c d same e f = clash (same_Some true false (sym e ∙ (ap (kind_at classes) same ∙ f))) where
  clash : true ≡ false → ⊥
  clash e = cc

pub method_means_one : (classes : List ClassInfo) (class : List ℕ) (key : Key) (a b : Result MethodId LinkError) → Method classes class key a → Method classes class key b → a ≡ b
method_means_one classes class key a b (res.no_class xe) (res.no_class ye) = refl
method_means_one classes class key a b (res.no_class xe) (res.of_interface yc ye yk) = absurd (some_none (res.class_with classes class) yc ye xe)
method_means_one classes class key a b (res.no_class xe) (res.found yc yd ym ye yk yh yn) = absurd (some_none (res.class_with classes class) yc ye xe)
method_means_one classes class key a b (res.no_class xe) (res.no_method yc ye yk yh) = absurd (some_none (res.class_with classes class) yc ye xe)
method_means_one classes class key a b (res.of_interface xc xe xk) (res.no_class ye) = absurd (some_none (res.class_with classes class) xc xe ye)
method_means_one classes class key a b (res.of_interface xc xe xk) (res.of_interface yc ye yk) = refl
method_means_one classes class key a b (res.of_interface xc xe xk) (res.found yc yd ym ye yk yh yn) = absurd (two_kinds classes xc yc (same_Some xc yc (sym xe ∙ ye)) xk yk)
method_means_one classes class key a b (res.of_interface xc xe xk) (res.no_method yc ye yk yh) = absurd (two_kinds classes xc yc (same_Some xc yc (sym xe ∙ ye)) xk yk)
method_means_one classes class key a b (res.found xc xd xm xe xk xh xn) (res.no_class ye) = absurd (some_none (res.class_with classes class) xc xe ye)
method_means_one classes class key a b (res.found xc xd xm xe xk xh xn) (res.of_interface yc ye yk) = absurd (two_kinds classes yc xc (same_Some yc xc (sym ye ∙ xe)) yk xk)
method_means_one classes class key a b (res.found xc xd xm xe xk xh xn) (res.found yc yd ym ye yk yh yn) =
    (let here : yc ≡ xc = same_Some yc xc (sym ye ∙ xe) in
    let same : xd ≡ yd = same_Some xd yd (one_of_class classes key xc (Some xd) (Some yd) xh (subst (λ i. MethodOfClass classes key i (Some yd)) here yh)) in
    ap (λ (i : MethodId). Ok i) (same_method xm ym (same_Some xm.0 ym.0 (sym xn ∙ (ap (λ i. method_number classes i key.0 key.1) same ∙ yn)))))
method_means_one classes class key a b (res.found xc xd xm xe xk xh xn) (res.no_method yc ye yk yh) =
    (let here : yc ≡ xc = same_Some yc xc (sym ye ∙ xe) in
    absurd (some_none (Some xd) xd refl (one_of_class classes key xc (Some xd) None xh (subst (λ i. MethodOfClass classes key i None) here yh))))
method_means_one classes class key a b (res.no_method xc xe xk xh) (res.no_class ye) = absurd (some_none (res.class_with classes class) xc xe ye)
method_means_one classes class key a b (res.no_method xc xe xk xh) (res.of_interface yc ye yk) = absurd (two_kinds classes yc xc (same_Some yc xc (sym ye ∙ xe)) yk xk)
method_means_one classes class key a b (res.no_method xc xe xk xh) (res.found yc yd ym ye yk yh yn) =
    (let here : yc ≡ xc = same_Some yc xc (sym ye ∙ xe) in
    absurd (some_none (Some yd) yd refl (one_of_class classes key xc (Some yd) None (subst (λ i. MethodOfClass classes key i (Some yd)) here yh) xh)))
method_means_one classes class key a b (res.no_method xc xe xk xh) (res.no_method yc ye yk yh) = refl

pub interface_method_means_one : (classes : List ClassInfo) (class : List ℕ) (key : Key) (a b : Result MethodId LinkError) → InterfaceMethod classes class key a → InterfaceMethod classes class key b → a ≡ b
interface_method_means_one classes class key a b (res.no_class xe) (res.no_class ye) = refl
interface_method_means_one classes class key a b (res.no_class xe) (res.of_class yc ye yk) = absurd (some_none (res.class_with classes class) yc ye xe)
interface_method_means_one classes class key a b (res.no_class xe) (res.found yc yd ym ye yk yh yn) = absurd (some_none (res.class_with classes class) yc ye xe)
interface_method_means_one classes class key a b (res.no_class xe) (res.no_method yc ye yk yh) = absurd (some_none (res.class_with classes class) yc ye xe)
interface_method_means_one classes class key a b (res.of_class xc xe xk) (res.no_class ye) = absurd (some_none (res.class_with classes class) xc xe ye)
interface_method_means_one classes class key a b (res.of_class xc xe xk) (res.of_class yc ye yk) = refl
interface_method_means_one classes class key a b (res.of_class xc xe xk) (res.found yc yd ym ye yk yh yn) = absurd (two_kinds classes yc xc (same_Some yc xc (sym ye ∙ xe)) yk xk)
interface_method_means_one classes class key a b (res.of_class xc xe xk) (res.no_method yc ye yk yh) = absurd (two_kinds classes yc xc (same_Some yc xc (sym ye ∙ xe)) yk xk)
interface_method_means_one classes class key a b (res.found xc xd xm xe xk xh xn) (res.no_class ye) = absurd (some_none (res.class_with classes class) xc xe ye)
interface_method_means_one classes class key a b (res.found xc xd xm xe xk xh xn) (res.of_class yc ye yk) = absurd (two_kinds classes xc yc (same_Some xc yc (sym xe ∙ ye)) xk yk)
interface_method_means_one classes class key a b (res.found xc xd xm xe xk xh xn) (res.found yc yd ym ye yk yh yn) =
    (let here : yc ≡ xc = same_Some yc xc (sym ye ∙ xe) in
    let same : xd ≡ yd = same_Some xd yd (one_of_interface classes key xc (Some xd) (Some yd) xh (subst (λ i. MethodOfInterface classes key i (Some yd)) here yh)) in
    ap (λ (i : MethodId). Ok i) (same_method xm ym (same_Some xm.0 ym.0 (sym xn ∙ (ap (λ i. method_number classes i key.0 key.1) same ∙ yn)))))
interface_method_means_one classes class key a b (res.found xc xd xm xe xk xh xn) (res.no_method yc ye yk yh) =
    (let here : yc ≡ xc = same_Some yc xc (sym ye ∙ xe) in
    absurd (some_none (Some xd) xd refl (one_of_interface classes key xc (Some xd) None xh (subst (λ i. MethodOfInterface classes key i None) here yh))))
interface_method_means_one classes class key a b (res.no_method xc xe xk xh) (res.no_class ye) = absurd (some_none (res.class_with classes class) xc xe ye)
interface_method_means_one classes class key a b (res.no_method xc xe xk xh) (res.of_class yc ye yk) = absurd (two_kinds classes xc yc (same_Some xc yc (sym xe ∙ ye)) xk yk)
interface_method_means_one classes class key a b (res.no_method xc xe xk xh) (res.found yc yd ym ye yk yh yn) =
    (let here : yc ≡ xc = same_Some yc xc (sym ye ∙ xe) in
    absurd (some_none (Some yd) yd refl (one_of_interface classes key xc (Some yd) None (subst (λ i. MethodOfInterface classes key i (Some yd)) here yh) xh)))
interface_method_means_one classes class key a b (res.no_method xc xe xk xh) (res.no_method yc ye yk yh) = refl

-- A symbolic reference resolves to one answer.
use Rattle.std.proofs.Common.{◌≡◌, ◌∙◌, ℕ, Bool, true, false, List, Option, Some, None, Result, Ok, Err, refl, sym, ap, subst}
use Rattle.std.specs.List.{find}
use Rattle.std.specs.Option.{option_map_or}
use Rattle.std.proofs.lemmas.Option.{same_Some}
use Rattle.wf_base.specs.declared.ids.ClassId.{ClassId}
use Rattle.wf_base.specs.declared.ids.FieldId.{FieldId}
use Rattle.wf_base.specs.declared.ids.MethodId.{MethodId}
use Rattle.wf_data.specs.Flags.{is_static}
use Rattle.wf_data.specs.declared.class_info.ClassInfo.{ClassInfo}
use Rattle.wf_data.specs.declared.class_info.FieldInfo.{FieldInfo}
use Rattle.wf_data.specs.declared.class_info.MethodInfo.{MethodInfo}
use Rattle.wf_grammar.specs.ClassFile.{Key}
use Rattle.wf_names.specs.declared.world.LinkError.{LinkError}
use Rattle.wf_classes.proofs.OneMember.{is_in, one_member}
use Rattle.wf_classes.specs.Members.{field_key, field_keys}
use Rattle.wf_classes.specs.Own.{IsField, IsMethod, fields_at, is_field_of}
use Rattle.wf_classes.specs.World.{number}
use Rattle.wf_resolve.proofs.OneAnswer.{field_means_one, method_means_one, interface_method_means_one}
use Rattle.wf_resolve.specs.Instructions as ins
use Rattle.wf_resolve.specs.Instructions.{is_plain_at, is_plain_class, New, FieldFor, MethodBy, MethodFor, MayCall}
use Rattle.wf_resolve.specs.Resolution.{class_with, is_array_name}
use Rattle.wf_resolve.specs.declared.instructions.Calling.{Calling}
use Rattle.wf_select.proofs.OneSelection.{IsOneMethod, one_method}
use Rattle.wf_linking.specs.Symbolic.{Symbolic}
use Rattle.wf_linking.specs.Linking as lin
use Rattle.wf_linking.specs.Linking.{IsPlainClassOf, Links, LinksIfAny, string_class, class_class}
use Rattle.wf_linking.specs.declared.linked.Linked.{Linked}
use Rattle.wf_linking.specs.declared.linked.Linked.TheVariants as linked

some_none : {A : Type 0} (o : Option A) (x : A) → o ≡ Some x → o ≡ None → ⊥
some_none o x e f = cc

both_ways : (b : Bool) → b ≡ true → b ≡ false → ⊥
both_ways b e f = cc

err_ok : {A : Type 0} (e : LinkError) (x : A) → (let r : Result A LinkError = Err e in let q : Result A LinkError = Ok x in r ≡ q) → ⊥
err_ok e x h = cc

same_ok : {A : Type 0} (x y : A) → (let r : Result A LinkError = Ok x in let q : Result A LinkError = Ok y in r ≡ q) → x ≡ y
same_ok x y h = cc

same_class : (c d : ClassId) → number c ≡ number d → c ≡ d
same_class c d e = let id : ℕ → ClassId = λ n. record { 0 = n } in ap id e

-- ---- members

record IsOneField (c d : ℕ) (f g : FieldInfo) : Type 0 where
  class : c ≡ d
  info : f ≡ g

one_field : (classes : List ClassInfo) (n c d : ℕ) (f g : FieldInfo) → IsField classes n c f → IsField classes n d g → IsOneField c d f g
one_field classes n c d f g h k =
    let same = one_member (field_keys classes) n c d (field_key f) (field_key g) (is_in (field_keys classes) n c (field_key f) h.number) (is_in (field_keys classes) n d (field_key g) k.number) in
    record {
      class = same.0;
      info = same_Some f g (sym h.there ∙ (ap (λ x. find (is_field_of (field_key f)) (fields_at classes x)) same.0 ∙ (ap (λ (q : Key). find (is_field_of q) (fields_at classes d)) same.1 ∙ k.there)));
    }

-- ---- the rules of instructions

one_new : (classes : List ClassInfo) (name : List ℕ) (a b : Result ClassId LinkError) → New classes name a → New classes name b → a ≡ b
one_new classes name a b (ins.no_class e) (ins.no_class f) = refl
one_new classes name a b (ins.no_class e) (ins.of_array d f g) = absurd (some_none (class_with classes name) d f e)
one_new classes name a b (ins.no_class e) (ins.of_no_objects d f g h) = absurd (some_none (class_with classes name) d f e)
one_new classes name a b (ins.no_class e) (ins.made d f g h) = absurd (some_none (class_with classes name) (number d) f e)
one_new classes name a b (ins.of_array c e i) (ins.no_class f) = absurd (some_none (class_with classes name) c e f)
one_new classes name a b (ins.of_array c e i) (ins.of_array d f g) = refl
one_new classes name a b (ins.of_array c e i) (ins.of_no_objects d f g h) = absurd (both_ways (is_array_name name) i g)
one_new classes name a b (ins.of_array c e i) (ins.made d f g h) = absurd (both_ways (is_array_name name) i g)
one_new classes name a b (ins.of_no_objects c e i j) (ins.no_class f) = absurd (some_none (class_with classes name) c e f)
one_new classes name a b (ins.of_no_objects c e i j) (ins.of_array d f g) = absurd (both_ways (is_array_name name) g i)
one_new classes name a b (ins.of_no_objects c e i j) (ins.of_no_objects d f g h) = refl
one_new classes name a b (ins.of_no_objects c e i j) (ins.made d f g h) = absurd (both_ways (is_plain_at classes (number d)) h (ap (is_plain_at classes) (same_Some (number d) c (sym f ∙ e)) ∙ j))
one_new classes name a b (ins.made c e i j) (ins.no_class f) = absurd (some_none (class_with classes name) (number c) e f)
one_new classes name a b (ins.made c e i j) (ins.of_array d f g) = absurd (both_ways (is_array_name name) g i)
one_new classes name a b (ins.made c e i j) (ins.of_no_objects d f g h) = absurd (both_ways (is_plain_at classes (number c)) j (ap (is_plain_at classes) (same_Some (number c) d (sym e ∙ f)) ∙ h))
one_new classes name a b (ins.made c e i j) (ins.made d f g h) = ap (λ (x : ClassId). Ok x) (same_class c d (same_Some (number c) (number d) (sym e ∙ f)))

-- two fields that one name means are one, as they are declared
fields_are_one : (classes : List ClassInfo) (class : List ℕ) (key : Key) (f g : FieldId) (c d : ℕ) (i j : FieldInfo) → (let r : Result FieldId LinkError = Ok f in let q : Result FieldId LinkError = Ok g in r ≡ q) → IsField classes f.0 c i → IsField classes g.0 d j → IsOneField c d i j
fields_are_one classes class key f g c d i j e h k = one_field classes g.0 c d i j (subst (λ (x : FieldId). IsField classes x.0 c i) (same_ok f g e) h) k

one_field_for : (classes : List ClassInfo) (static : Bool) (class : List ℕ) (key : Key) (a b : Result FieldId LinkError) → FieldFor classes static class key a → FieldFor classes static class key b → a ≡ b
one_field_for classes static class key a b (ins.unresolved e h) (ins.unresolved f k) = field_means_one classes class key (Err e) (Err f) h k
one_field_for classes static class key a b (ins.unresolved e h) (ins.other_kind g d j k l y) = absurd (err_ok e g (field_means_one classes class key (Err e) (Ok g) h k))
one_field_for classes static class key a b (ins.unresolved e h) (ins.resolved g d j k l y) = absurd (err_ok e g (field_means_one classes class key (Err e) (Ok g) h k))
one_field_for classes static class key a b (ins.other_kind f c i h m x) (ins.unresolved e k) = absurd (err_ok e f (field_means_one classes class key (Err e) (Ok f) k h))
one_field_for classes static class key a b (ins.other_kind f c i h m x) (ins.other_kind g d j k l y) = refl
one_field_for classes static class key a b (ins.other_kind f c i h m x) (ins.resolved g d j k l y) =
    let same = fields_are_one classes class key f g c d i j (field_means_one classes class key (Ok f) (Ok g) h k) m l in
    absurd (x (ap (λ (z : FieldInfo). is_static z.flags) same.info ∙ y))
one_field_for classes static class key a b (ins.resolved f c i h m x) (ins.unresolved e k) = absurd (err_ok e f (field_means_one classes class key (Err e) (Ok f) k h))
one_field_for classes static class key a b (ins.resolved f c i h m x) (ins.other_kind g d j k l y) =
    let same = fields_are_one classes class key f g c d i j (field_means_one classes class key (Ok f) (Ok g) h k) m l in
    absurd (y (ap (λ (z : FieldInfo). is_static z.flags) (sym same.info) ∙ x))
one_field_for classes static class key a b (ins.resolved f c i h m x) (ins.resolved g d j k l y) = field_means_one classes class key (Ok f) (Ok g) h k

one_method_by : (classes : List ClassInfo) (of_interface : Bool) (class : List ℕ) (key : Key) (a b : Result MethodId LinkError) → MethodBy classes of_interface class key a → MethodBy classes of_interface class key b → a ≡ b
one_method_by classes false class key a b h k = method_means_one classes class key a b h k
one_method_by classes true class key a b h k = interface_method_means_one classes class key a b h k

methods_are_one : (classes : List ClassInfo) (f g : MethodId) (c d : ℕ) (i j : MethodInfo) → (let r : Result MethodId LinkError = Ok f in let q : Result MethodId LinkError = Ok g in r ≡ q) → IsMethod classes f.0 c i → IsMethod classes g.0 d j → IsOneMethod c d i j
methods_are_one classes f g c d i j e h k = one_method classes g.0 c d i j (subst (λ (x : MethodId). IsMethod classes x.0 c i) (same_ok f g e) h) k

one_method_for : (classes : List ClassInfo) (how : Calling) (w : Bool) (class : List ℕ) (key : Key) (a b : Result MethodId LinkError) → MethodFor classes how w class key a → MethodFor classes how w class key b → a ≡ b
one_method_for classes how w class key a b (ins.unresolved e h) (ins.unresolved f k) = one_method_by classes w class key (Err e) (Err f) h k
one_method_for classes how w class key a b (ins.unresolved e h) (ins.no_constructor g d j k l n) = absurd (err_ok e g (one_method_by classes w class key (Err e) (Ok g) h k))
one_method_for classes how w class key a b (ins.unresolved e h) (ins.other_kind g d j k l n y) = absurd (err_ok e g (one_method_by classes w class key (Err e) (Ok g) h k))
one_method_for classes how w class key a b (ins.unresolved e h) (ins.resolved g d j k l n y) = absurd (err_ok e g (one_method_by classes w class key (Err e) (Ok g) h k))
one_method_for classes how w class key a b (ins.no_constructor f c i h m o) (ins.unresolved e k) = absurd (err_ok e f (one_method_by classes w class key (Err e) (Ok f) k h))
one_method_for classes how w class key a b (ins.no_constructor f c i h m o) (ins.no_constructor g d j k l n) = refl
one_method_for classes how w class key a b (ins.no_constructor f c i h m o) (ins.other_kind g d j k l n y) =
    let same = methods_are_one classes f g c d i j (one_method_by classes w class key (Ok f) (Ok g) h k) m l in
    absurd (o (subst (λ z. MayCall classes how class key.0 z) (sym same.class) n))
one_method_for classes how w class key a b (ins.no_constructor f c i h m o) (ins.resolved g d j k l n y) =
    let same = methods_are_one classes f g c d i j (one_method_by classes w class key (Ok f) (Ok g) h k) m l in
    absurd (o (subst (λ z. MayCall classes how class key.0 z) (sym same.class) n))
one_method_for classes how w class key a b (ins.other_kind f c i h m o x) (ins.unresolved e k) = absurd (err_ok e f (one_method_by classes w class key (Err e) (Ok f) k h))
one_method_for classes how w class key a b (ins.other_kind f c i h m o x) (ins.no_constructor g d j k l n) =
    let same = methods_are_one classes f g c d i j (one_method_by classes w class key (Ok f) (Ok g) h k) m l in
    absurd (n (subst (λ z. MayCall classes how class key.0 z) same.class o))
one_method_for classes how w class key a b (ins.other_kind f c i h m o x) (ins.other_kind g d j k l n y) = refl
one_method_for classes how w class key a b (ins.other_kind f c i h m o x) (ins.resolved g d j k l n y) =
    let same = methods_are_one classes f g c d i j (one_method_by classes w class key (Ok f) (Ok g) h k) m l in
    absurd (x (ap (λ (z : MethodInfo). is_static z.flags) same.info ∙ y))
one_method_for classes how w class key a b (ins.resolved f c i h m o x) (ins.unresolved e k) = absurd (err_ok e f (one_method_by classes w class key (Err e) (Ok f) k h))
one_method_for classes how w class key a b (ins.resolved f c i h m o x) (ins.no_constructor g d j k l n) =
    let same = methods_are_one classes f g c d i j (one_method_by classes w class key (Ok f) (Ok g) h k) m l in
    absurd (n (subst (λ z. MayCall classes how class key.0 z) same.class o))
one_method_for classes how w class key a b (ins.resolved f c i h m o x) (ins.other_kind g d j k l n y) =
    let same = methods_are_one classes f g c d i j (one_method_by classes w class key (Ok f) (Ok g) h k) m l in
    absurd (y (ap (λ (z : MethodInfo). is_static z.flags) (sym same.info) ∙ x))
one_method_for classes how w class key a b (ins.resolved f c i h m o x) (ins.resolved g d j k l n y) = one_method_by classes w class key (Ok f) (Ok g) h k

-- ---- symbolic references

one_plain : (classes : List ClassInfo) (name : List ℕ) (c d : ClassId) → IsPlainClassOf classes name c → IsPlainClassOf classes name d → c ≡ d
one_plain classes name c d p q = same_class c d (same_Some (number c) (number d) (sym p.there ∙ q.there))

not_plain : (classes : List ClassInfo) (name : List ℕ) (c : ClassId) → IsPlainClassOf classes name c → is_plain_class classes name ≡ false → ⊥
not_plain classes name c p e = both_ways (is_plain_class classes name) (ap (λ o. option_map_or (is_plain_at classes) o false) p.there ∙ p.plain) e

abbrev field_of : ClassId → FieldId → Result Linked LinkError
field_of c f = Ok (linked.Field (record { class = c; field = f }))

abbrev method_of : ClassId → ClassId → MethodId → Result Linked LinkError
method_of n c m = Ok (linked.Method (record { named = n; class = c; method = m }))

same_err : {A : Type 0} (e f : LinkError) → (let r : Result A LinkError = Err e in let q : Result A LinkError = Err f in r ≡ q) → (let r : Result Linked LinkError = Err e in let q : Result Linked LinkError = Err f in r ≡ q)
same_err e f h = (let same : e ≡ f = cc in ap (λ (x : LinkError). Err x) same)

pub links_to_one : (classes : List ClassInfo) (s : Symbolic) (a b : Result Linked LinkError) → Links classes s a → Links classes s b → a ≡ b
links_to_one classes s a b (lin.string c p) (lin.string d q) = ap (λ (x : ClassId). Ok (linked.Object x)) (one_plain classes string_class c d p q)
links_to_one classes s a b (lin.string c p) (lin.no_string e) = absurd (not_plain classes string_class c p e)
links_to_one classes s a b (lin.no_string e) (lin.string c p) = absurd (not_plain classes string_class c p e)
links_to_one classes s a b (lin.no_string e) (lin.no_string f) = refl
links_to_one classes s a b (lin.class n c x p e) (lin.class m d y q f) = ap (λ (x : ClassId). Ok (linked.Object x)) (one_plain classes class_class c d p q)
links_to_one classes s a b (lin.class n c x p e) (lin.no_class_class m f) = absurd (not_plain classes class_class c p f)
links_to_one classes s a b (lin.class n c x p e) (lin.no_class m f) = absurd (some_none (class_with classes n) x e f)
links_to_one classes s a b (lin.no_class_class n f) (lin.class m d y q g) = absurd (not_plain classes class_class d q f)
links_to_one classes s a b (lin.no_class_class n f) (lin.no_class_class m g) = refl
links_to_one classes s a b (lin.no_class_class n f) (lin.no_class m g) = refl
links_to_one classes s a b (lin.no_class n f) (lin.class m d y q g) = absurd (some_none (class_with classes n) y g f)
links_to_one classes s a b (lin.no_class n f) (lin.no_class_class m g) = refl
links_to_one classes s a b (lin.no_class n f) (lin.no_class m g) = refl
links_to_one classes s a b (lin.object n c h) (lin.object m d k) = ap (λ (x : ClassId). Ok (linked.Object x)) (same_ok c d (one_new classes n (Ok c) (Ok d) h k))
links_to_one classes s a b (lin.object n c h) (lin.no_object m e k) = absurd (err_ok e c (one_new classes n (Err e) (Ok c) k h))
links_to_one classes s a b (lin.no_object n e h) (lin.object m d k) = absurd (err_ok e d (one_new classes n (Err e) (Ok d) h k))
links_to_one classes s a b (lin.no_object n e h) (lin.no_object m f k) = same_err e f (one_new classes n (Err e) (Err f) h k)
links_to_one classes s a b (lin.type n c e) (lin.type m d f) = ap (λ (x : ClassId). Ok (linked.Type x)) (same_class c d (same_Some (number c) (number d) (sym e ∙ f)))
links_to_one classes s a b (lin.type n c e) (lin.no_type m f) = absurd (some_none (class_with classes n) (number c) e f)
links_to_one classes s a b (lin.no_type n e) (lin.type m d f) = absurd (some_none (class_with classes n) (number d) f e)
links_to_one classes s a b (lin.no_type n e) (lin.no_type m f) = refl
links_to_one classes s a b (lin.field w m f c i h x) (lin.field v n g d j k y) =
    let both = one_field_for classes w m.class (m.name, m.desc) (Ok f) (Ok g) h k in
    let same = fields_are_one classes m.class (m.name, m.desc) f g (number c) (number d) i j both x y in
    ap (λ (z : ClassId). field_of z f) (same_class c d same.class) ∙ ap (λ (z : FieldId). field_of d z) (same_ok f g both)
links_to_one classes s a b (lin.field w m f c i h x) (lin.no_field v n e k) = absurd (err_ok e f (one_field_for classes w m.class (m.name, m.desc) (Err e) (Ok f) k h))
links_to_one classes s a b (lin.no_field w m e h) (lin.field v n g d j k y) = absurd (err_ok e g (one_field_for classes w m.class (m.name, m.desc) (Err e) (Ok g) h k))
links_to_one classes s a b (lin.no_field w m e h) (lin.no_field v n f k) = same_err e f (one_field_for classes w m.class (m.name, m.desc) (Err e) (Err f) h k)
links_to_one classes s a b (lin.method how w m f z c i h o x) (lin.method why v n g t d j k p y) =
    let both = one_method_for classes how w m.class (m.name, m.desc) (Ok f) (Ok g) h k in
    let same = methods_are_one classes f g (number c) (number d) i j both x y in
    ap (λ (u : ClassId). method_of u c f) (same_class z t (same_Some (number z) (number t) (sym o ∙ p)))
    ∙ (ap (λ (u : ClassId). method_of t u f) (same_class c d same.class) ∙ ap (λ (u : MethodId). method_of t d u) (same_ok f g both))
links_to_one classes s a b (lin.method how w m f z c i h o x) (lin.no_method why v n e k) = absurd (err_ok e f (one_method_for classes how w m.class (m.name, m.desc) (Err e) (Ok f) k h))
links_to_one classes s a b (lin.no_method how w m e h) (lin.method why v n g t d j k p y) = absurd (err_ok e g (one_method_for classes how w m.class (m.name, m.desc) (Err e) (Ok g) h k))
links_to_one classes s a b (lin.no_method how w m e h) (lin.no_method why v n f k) = same_err e f (one_method_for classes how w m.class (m.name, m.desc) (Err e) (Err f) h k)

pub one_if_any : (classes : List ClassInfo) (s : Option Symbolic) (a b : Option (Result Linked LinkError)) → LinksIfAny classes s a → LinksIfAny classes s b → a ≡ b
one_if_any classes None a b h k = h ∙ sym k
one_if_any classes (Some s) None b h k = absurd h
one_if_any classes (Some s) (Some x) None h k = absurd k
one_if_any classes (Some s) (Some x) (Some y) h k = ap (λ (r : Result Linked LinkError). Some r) (links_to_one classes s x y h k)

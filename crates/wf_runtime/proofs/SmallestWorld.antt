-- The look-ups of the smallest program are as they are told.
use Rattle.std.proofs.Common.{◌≡◌, ◌++◌, get_or, replicate, inl, inr, ℕ, zero, suc, ◌-◌, ◌<◌, Bool, true, false, List, [], Option, Some, None, refl, sym, ap, subst, ◌∙◌, arith, length}
use Rattle.std.specs.Prelude.{◌==◌, ◌&&◌, ◌||◌, slice_get, option_map, option_and_then, if◌then◌else◌}
use Rattle.std.specs.Option.{option_map_or}
use Rattle.std.proofs.lemmas.Bool.{or_cases, eqb-true, eq-eqb}
use Rattle.wf_base.specs.declared.ids.ClassId.{ClassId}
use Rattle.wf_base.specs.declared.ids.MethodId.{MethodId}
use Rattle.wf_base.specs.declared.ids.TypeId.{TypeId}
use Rattle.wf_data.specs.declared.class_info.FieldInfo.{FieldInfo}
use Rattle.wf_data.specs.declared.class_info.MethodInfo.{MethodInfo}
use Rattle.wf_operation.specs.declared.sort.Element.{Element}
use Rattle.wf_classes.specs.Above as above
use Rattle.wf_classes.specs.Above.{IsAbove, IsDirectlyAbove}
use Rattle.wf_classes.specs.Own.{IsField, IsMethod}
use Rattle.wf_classes.specs.World.{name_at, superclass_of, superinterfaces_of}
use Rattle.wf_init.specs.Initializers.{initializer_of}
use Rattle.wf_init.specs.Order as order
use Rattle.wf_init.specs.Order.{IsInitOrder}
use Rattle.wf_machine.specs.Values.{Null, zero_of}
use Rattle.wf_machine.specs.World.{Instruction}
use Rattle.wf_subtype.specs.declared.reference.Inner.{Inner}
use Rattle.wf_subtype.specs.declared.reference.Inner.TheVariants.{Class, Primitive}
use Rattle.wf_subtype.specs.declared.reference.Reference.{Reference}
use Rattle.wf_subtype.specs.References.{component_of, target_number, name_of, inner_text}
use Rattle.wf_subtype.specs.Subtypes as subtypes
use Rattle.wf_subtype.specs.Subtypes.{IsUnder, IsSubtype}
use Rattle.wf_rows.specs.Errors.{class_name}
use Rattle.wf_rows.specs.declared.throwable.Throwable.{Throwable}
use Rattle.wf_rows.specs.declared.throwable.Throwable.TheVariants as throwable
use Rattle.wf_actions.specs.Named.{type_named}
use Rattle.wf_runtime.specs.Bodies.{IsExecutedAt}
use Rattle.wf_runtime.specs.Runtime.{IsWorldOf, error_name}
use Rattle.wf_runtime.specs.Smallest.{types, smallest, world, object_class}
use Rattle.wf_runtime.specs.Statics as statics
use Rattle.wf_runtime.specs.Statics.{AreStaticFields}
use Rattle.wf_runtime.specs.Types.{class_reference, reference_of, element_of, component_kind, has_dimensions, IsUnderNamed}

no_bool : {P : Type 0} → false ≡ true → P
no_bool e = absurd cc

-- ---- what isn't there

no_method : (m : ℕ) (c : ℕ) (info : MethodInfo) → IsMethod types.classes m c info → ⊥
no_method m zero info is = let e : None ≡ Some info = is.there in absurd cc
no_method m (suc c) info is = let e : None ≡ Some info = is.there in absurd cc

no_field : (f : ℕ) (c : ℕ) (info : FieldInfo) → IsField types.classes f c info → ⊥
no_field f zero info is = let e : None ≡ Some info = is.there in absurd cc
no_field f (suc c) info is = let e : None ≡ Some info = is.there in absurd cc

no_executed : (m : MethodId) (pc : ℕ) (i : Instruction) → IsExecutedAt smallest m pc i → ⊥
no_executed m pc i x = no_method m.0 x.body.number x.body.info x.executed.body.is

-- ---- the one class

one_reference : (i : ℕ) (r : Reference) → slice_get types.references i ≡ Some r → (i ≡ 0) × (r ≡ class_reference 0)
one_reference zero r e = (refl, cc)
one_reference (suc i) r e = absurd cc

else_of : {A : Type 0} (b : Bool) (x : Option A) (r : A) → (if b then None else x) ≡ Some r → x ≡ Some r
else_of true x r e = absurd cc
else_of false x r e = e

one_type : (t : TypeId) (r : Reference) → reference_of types t ≡ Some r → r ≡ class_reference 0
one_type t r e = (one_reference (t.0 - 1) r (else_of (t.0 == 0) (slice_get types.references (t.0 - 1)) r e)).1

only_itself : (c d : ℕ) → c ≡ 0 → IsAbove types.classes c d → d ≡ 0
only_itself c d e (above.IsAbove.itself _) = e
only_itself c d e (above.IsAbove.through _ s _ (above.IsDirectlyAbove.superclass _ k) up) =
    let none : None ≡ Some s = subst (λ (n : ℕ). superclass_of types.classes n ≡ Some s) e k in absurd cc
only_itself c d e (above.IsAbove.through _ s _ (above.IsDirectlyAbove.superinterface i _ k) up) =
    let none : None ≡ Some s = subst (λ (n : ℕ). slice_get (superinterfaces_of types.classes n) i ≡ Some s) e k in absurd cc

-- ---- subtypes

below_one : (dims : ℕ) (inner : Inner) → IsUnder types.classes 0 (Class (record { 0 = 0 })) dims inner → target_number 1 0 (record { dims = dims; inner = inner }) ≡ 0
below_one zero (Class d) up = let e = only_itself 0 d.0 refl up in omega arith
below_one zero (Primitive q) up = absurd up
below_one (suc n) inner up = absurd up

left_of_both : (a b : Bool) → (a && b) ≡ true → a ≡ true
left_of_both true b e = refl
left_of_both false b e = absurd cc

right_of_both : (a b : Bool) → (a && b) ≡ true → b ≡ true
right_of_both true b e = e
right_of_both false b e = absurd cc

under_from : (t u : ℕ) → (t == 0 || (t == 1 && u == 0)) ≡ true → IsSubtype types t u
under_from t u e =
    elim (or_cases (t == 0) (t == 1 && u == 0) e) [
      | inl null ↦ subtypes.IsSubtype.null (eqb-true t 0 null)
      | inr both ↦ (
          let one : t ≡ 1 = eqb-true t 1 (left_of_both (t == 1) (u == 0) both) in
          let target : u ≡ 0 = eqb-true u 0 (right_of_both (t == 1) (u == 0) both) in
          subtypes.IsSubtype.under 0 (class_reference 0) (class_reference 0) one refl (record { number = target }) (above.IsAbove.itself 0))
    ]

or_first : (a b : Bool) → a ≡ true → (a || b) ≡ true
or_first true b e = refl
or_first false b e = absurd cc

under_back : (t u : ℕ) → IsSubtype types t u → (t == 0 || (t == 1 && u == 0)) ≡ true
under_back t u (subtypes.IsSubtype.null e) = or_first (t == 0) (t == 1 && u == 0) (eq-eqb t 0 e)
under_back t u (subtypes.IsSubtype.under i r s at there target up) =
    let one = one_reference i r there in
    let first : t ≡ 1 = omega (arith, one.0) in
    let zero_target : target_number 1 0 s ≡ 0 = below_one s.dims s.inner (subst (λ (q : Reference). IsUnder types.classes q.dims q.inner s.dims s.inner) one.1 up) in
    let second : u ≡ 0 = target.number ∙ zero_target in
    rw (first, second) refl

-- ---- types

first_of : (o : Option Reference) → ((r : Reference) → o ≡ Some r → r ≡ class_reference 0) → Null ≡ option_map_or (λ r. zero_of (component_kind r)) o Null
first_of None h = refl
first_of (Some r) h = rw (h r refl) refl

no_array : (o : Option Reference) → ((r : Reference) → o ≡ Some r → r ≡ class_reference 0) → false ≡ option_map_or has_dimensions o false
no_array None h = refl
no_array (Some r) h = rw (h r refl) refl

no_elements : (o : Option Reference) (e : Element) → ((r : Reference) → o ≡ Some r → r ≡ class_reference 0) → option_and_then element_of o ≡ Some e → ⊥
no_elements None e h k = absurd cc
no_elements (Some r) e h k = let none : None ≡ Some e = subst (λ (q : Reference). element_of q ≡ Some e) (h r refl) k in absurd cc

no_component : (o : Option Reference) (c : Reference) → ((r : Reference) → o ≡ Some r → r ≡ class_reference 0) → option_and_then component_of o ≡ Some c → ⊥
no_component None c h k = absurd cc
no_component (Some r) c h k = let none : None ≡ Some c = subst (λ (q : Reference). component_of q ≡ Some c) (h r refl) k in absurd cc

-- ---- errors

differ : (m n : ℕ) → m < n → m ≡ n → ⊥
differ m n less same = omega arith

starts_otherwise : (n : ℕ) (o : Option (List ℕ)) → option_map (λ text. replicate (suc n) 91 ++ text) o ≡ Some error_name → ⊥
starts_otherwise n None e = absurd cc
starts_otherwise n (Some text) e = differ 91 106 (omega arith) (ap (λ (o : Option (List ℕ)). option_map_or (λ (xs : List ℕ). get_or xs 0 0) o 0) e)

no_error : (dims : ℕ) (inner : Inner) → name_of types.classes dims inner ≡ Some error_name → ⊥
no_error zero (Class c) e = no_error_class c.0 e where
  no_error_class : (c : ℕ) → name_at types.classes c ≡ Some error_name → ⊥
  no_error_class zero e = differ 15 16 (omega arith) (sym (ap (λ (o : Option (List ℕ)). option_map_or (λ (xs : List ℕ). length xs) o 0) e))
  no_error_class (suc c) e = absurd cc
no_error zero (Primitive p) e = absurd cc
no_error (suc n) inner e = starts_otherwise n (inner_text types.classes inner) e

no_errors : (t : TypeId) → IsUnderNamed types t error_name → ⊥
no_errors t x = no_error x.found.0.dims x.found.0.inner x.found.1.text

nothing_thrown : (e : Throwable) → None ≡ type_named types (class_name e)
nothing_thrown throwable.NullPointer = refl
nothing_thrown throwable.ArrayIndexOutOfBounds = refl
nothing_thrown throwable.ArrayStore = refl
nothing_thrown throwable.NegativeArraySize = refl
nothing_thrown throwable.ClassCast = refl
nothing_thrown throwable.Arithmetic = refl
nothing_thrown throwable.AbstractMethod = refl
nothing_thrown throwable.IncompatibleClassChange = refl
nothing_thrown throwable.NoClassDefFound = refl
nothing_thrown throwable.NoSuchField = refl
nothing_thrown throwable.NoSuchMethod = refl
nothing_thrown throwable.Instantiation = refl
nothing_thrown throwable.ExceptionInInitializer = refl

-- ---- classes

no_initializer : (c : ℕ) → None ≡ initializer_of types.classes c
no_initializer zero = refl
no_initializer (suc c) = refl

no_statics : (c : ClassId) → c.0 ≡ 0 → AreStaticFields smallest c []
no_statics c e = record { class = object_class; there = ap (slice_get types.classes) e; are = statics.AreStatics.none }

nothing_before : (c : ℕ) → c ≡ 0 → IsInitOrder types.classes c []
nothing_before c e = subst (λ (n : ℕ). IsInitOrder types.classes n []) (sym e) (order.IsInitOrder.class [] [] refl (order.Enumerates.none []))

-- ---- all of them

pub smallest_is : IsWorldOf smallest world
smallest_is = record {
  code = λ m pc i x. no_executed m pc i x;
  entry = λ m c info is. absurd (no_method m.0 c info is);
  handlers = λ m b pc x. absurd (no_method m.0 b.number b.info x.body.is);
  selects = λ m pc t some x. absurd (no_method m.0 x.call.body.number x.call.body.info x.call.is.is);
  summary = λ m. refl;
  is_under = λ t u. (under_from t.0 u.0, under_back t.0 u.0);
  is_array = λ t. no_array (reference_of types t) (one_type t);
  has_elements = λ t e. (no_bool, λ k. absurd (no_elements (reference_of types t) e (one_type t) k));
  may_hold = λ array t. (no_bool, λ h. absurd (no_component (reference_of types array) h.component (one_type array) h.of_array));
  first_value = λ t f kind h. no_field f.0 h.declaring h.info h.is;
  first_element = λ t. first_of (reference_of types t) (one_type t);
  is_static = λ f c info is. absurd (no_field f.0 c info is);
  initializer = λ c. no_initializer c.0;
  static_fields = λ c inside. no_statics c (omega arith);
  before = λ c inside. nothing_before c.0 (omega arith);
  is_error = λ t. (no_bool, λ x. absurd (no_errors t x));
  thrown = nothing_thrown;
}

-- The first methods, and the first fields, of a program.
use Rattle.std.proofs.Common.{◌≡◌, ℕ, suc, ◌+◌, ◌≤◌, Bool, true, false, cond, List, [], ◌∷◌, ◌++◌, length, Option, Some, None, refl, sym, ap, ◌∙◌, arith}
use Rattle.std.specs.Prelude.{slice_get}
use Rattle.std.specs.List.{find}
use Rattle.std.specs.Option.{option_map_or}
use Rattle.std.proofs.lemmas.List.{length_push}
use Rattle.wf_base.specs.declared.kind.Kind.{Kind}
use Rattle.wf_base.specs.declared.kind.Kind.TheVariants.{Int, Long, Ref, Float, Double}
use Rattle.wf_data.specs.declared.class_info.ClassInfo.{ClassInfo}
use Rattle.wf_data.specs.declared.class_info.MethodInfo.{MethodInfo}
use Rattle.wf_descriptor.specs.declared.descriptor.FieldDesc.{FieldDesc}
use Rattle.wf_descriptor.specs.declared.descriptor.MethodDesc.{MethodDesc}
use Rattle.wf_descriptor.specs.Descriptors.{SpellsMethod, slots_of, slots_taken}
use Rattle.wf_classes.specs.Members.{method_key}
use Rattle.wf_classes.specs.Own.{IsMethod, is_method_of, methods_at}
use Rattle.wf_classes.specs.World.{IsClosedWorld}
use Rattle.wf_subtype.specs.Subtypes.{AllTypes}
use Rattle.wf_binding.proofs.ShortDescriptors.{IsShort, class_is_short}
use Rattle.wf_nodes.specs.declared.fields.FieldPlace.{FieldPlace}
use Rattle.wf_nodes.specs.declared.methods.MethodPlace.{MethodPlace}
use Rattle.wf_nodes.specs.Tables.{nodes_at, followed_at, no_method, no_field, AreMethods, AreFields, IsMethodWith, IsFieldWith}
use Rattle.wf_nodes.proofs.Placing.{each_on}

module _ (types : AllTypes) where
  pub methods_none : AreMethods types 0 []
  methods_none = record { count = refl; each = λ m l. absurd (omega (arith, l)) }

  pub methods_on : (n : ℕ) (places : List MethodPlace) (p : MethodPlace) → AreMethods types n places → IsMethodWith types n (nodes_at p) → AreMethods types (n + 1) (places ++ p ∷ [])
  methods_on n places p h is = record {
    count = omega (arith, length_push places p, h.count);
    each = each_on (λ m (q : MethodPlace). IsMethodWith types m (nodes_at q)) no_method places p n h.count is h.each;
  }

  pub fields_none : AreFields types 0 []
  fields_none = record { count = refl; each = λ f l. absurd (omega (arith, l)) }

  pub fields_on : (n : ℕ) (places : List FieldPlace) (p : FieldPlace) → AreFields types n places → IsFieldWith types n (followed_at p) → AreFields types (n + 1) (places ++ p ∷ [])
  fields_on n places p h is = record {
    count = omega (arith, length_push places p, h.count);
    each = each_on (λ f (q : FieldPlace). IsFieldWith types f (followed_at q)) no_field places p n h.count is h.each;
  }

-- ---- descriptors

some_slot : (kind : Kind) → 1 ≤ slots_of kind
some_slot Int = omega arith
some_slot Long = omega arith
some_slot Ref = omega arith
some_slot Float = omega arith
some_slot Double = omega arith

parameters_few : (params : List FieldDesc) → length params ≤ slots_taken params
parameters_few [] = omega arith
parameters_few (p ∷ ps) = omega (arith, some_slot p.kind, parameters_few ps)

-- a parameter takes a slot
pub parameters_within : (slots : ℕ) (bytes : List ℕ) (desc : MethodDesc) → SpellsMethod slots bytes desc → length desc.params ≤ slots
parameters_within slots bytes desc h = omega (arith, parameters_few desc.params, h.params.fits)

find_get : {X : Type 0} (p : X → Bool) (xs : List X) (x : X) → find p xs ≡ Some x → (i : ℕ) × (slice_get xs i ≡ Some x)
find_get p [] x e = absurd cc
find_get p (y ∷ ys) x e = at (p y) refl (λ f. find_get p ys x f) where
  at : (b : Bool) → p y ≡ b → (find p ys ≡ Some x → (i : ℕ) × (slice_get ys i ≡ Some x)) → (i : ℕ) × (slice_get (y ∷ ys) i ≡ Some x)
  at true t on = (0, sym (ap (λ b. cond b (Some y) (find p ys)) t) ∙ e)
  at false t on = (let rest = on (sym (ap (λ b. cond b (Some y) (find p ys)) t) ∙ e) in (suc rest.0, rest.1))

-- a method that is there has a descriptor, which is short
pub method_is_short : (classes : List ClassInfo) (m c : ℕ) (info : MethodInfo) → IsClosedWorld classes → IsMethod classes m c info → IsShort info.desc
method_is_short classes m c info w is = at (slice_get classes c) refl (find_get (is_method_of (method_key info)) (methods_at classes c) info is.there) where
  at : (k : Option ClassInfo) → slice_get classes c ≡ k → (i : ℕ) × (slice_get (methods_at classes c) i ≡ Some info) → IsShort info.desc
  at None f there = absurd (let none = sym (ap (λ (o : Option ClassInfo). slice_get (option_map_or (λ (k : ClassInfo). k.methods) o []) there.0) f) ∙ there.1 in cc none)
  at (Some k) f there = class_is_short classes c there.0 k info w f (sym (ap (λ (o : Option ClassInfo). slice_get (option_map_or (λ (k : ClassInfo). k.methods) o []) there.0) f) ∙ there.1)

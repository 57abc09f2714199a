-- The code of a method that a closed world has is short.
use Rattle.std.proofs.Common.{◌≡◌, ℕ, suc, Bool, true, false, cond, ◌≤◌, List, [], ◌∷◌, length, Option, Some, None, refl, sym, ap, ◌∙◌}
use Rattle.std.specs.Prelude.{slice_get}
use Rattle.std.specs.List.{find}
use Rattle.std.specs.Option.{option_map_or}
use Rattle.wf_data.specs.declared.class_info.ClassInfo.{ClassInfo}
use Rattle.wf_data.specs.declared.class_info.CodeInfo.{CodeInfo}
use Rattle.wf_data.specs.declared.class_info.MethodInfo.{MethodInfo}
use Rattle.wf_classes.specs.Members.{method_key}
use Rattle.wf_classes.specs.Own.{IsMethod, is_method_of, methods_at}
use Rattle.wf_classes.specs.World.{IsClosedWorld}
use Rattle.wf_subtype.specs.Universe.{HasShortCode}

find_get : {X : Type 0} (p : X → Bool) (xs : List X) (x : X) → find p xs ≡ Some x → (i : ℕ) × (slice_get xs i ≡ Some x)
find_get p [] x e = absurd cc
find_get p (y ∷ ys) x e = at (p y) refl (λ f. find_get p ys x f) where
  at : (b : Bool) → p y ≡ b → (find p ys ≡ Some x → (i : ℕ) × (slice_get ys i ≡ Some x)) → (i : ℕ) × (slice_get (y ∷ ys) i ≡ Some x)
  at true t on = (0, sym (ap (λ b. cond b (Some y) (find p ys)) t) ∙ e)
  at false t on = (let rest = on (sym (ap (λ b. cond b (Some y) (find p ys)) t) ∙ e) in (suc rest.0, rest.1))

pub short_code : (classes : List ClassInfo) (m c : ℕ) (info : MethodInfo) → IsClosedWorld classes → IsMethod classes m c info → HasShortCode info
short_code classes m c info w is = record { short = λ code e. at (slice_get classes c) refl (find_get (is_method_of (method_key info)) (methods_at classes c) info is.there) code e } where
  at : (k : Option ClassInfo) → slice_get classes c ≡ k → (i : ℕ) × (slice_get (methods_at classes c) i ≡ Some info) → (code : CodeInfo) → info.code ≡ Some code → length code.code ≤ 65535
  at None f there code e = absurd (let none = sym (ap (λ (o : Option ClassInfo). slice_get (option_map_or (λ (k : ClassInfo). k.methods) o []) there.0) f) ∙ there.1 in cc none)
  at (Some k) f there code e = w.limits.codes c there.0 k info code f (sym (ap (λ (o : Option ClassInfo). slice_get (option_map_or (λ (k : ClassInfo). k.methods) o []) there.0) f) ∙ there.1) e

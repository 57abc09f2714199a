-- Numbers of what is looked up tell what it is.
use Rattle.std.proofs.Common.{◌≡◌, ℕ, List, [], ◌∷◌, Option, Some, None, refl, ap}
use Rattle.std.specs.Prelude.{map, option_map}
use Rattle.wf_base.specs.declared.ids.ClassId.{ClassId}
use Rattle.wf_base.specs.declared.ids.MethodId.{MethodId}
use Rattle.wf_classes.specs.World.{number}
use Rattle.wf_runtime.specs.Runtime.{method_number}

same_class : (c d : ClassId) → c.0 ≡ d.0 → c ≡ d
same_class c d e = ap (λ (n : ℕ). record { 0 = n }) e

same_method : (m n : MethodId) → m.0 ≡ n.0 → m ≡ n
same_method m n e = ap (λ (k : ℕ). record { 0 = k }) e

pub same_classes : (cs ds : List ClassId) → map number cs ≡ map number ds → cs ≡ ds
same_classes [] [] e = refl
same_classes [] (d ∷ ds) e = absurd cc
same_classes (c ∷ cs) [] e = absurd cc
same_classes (c ∷ cs) (d ∷ ds) e =
    let first : c.0 ≡ d.0 = cc in
    let rest : map number cs ≡ map number ds = cc in
    let one = same_class c d first in
    let all = same_classes cs ds rest in
    cc

pub same_methods : (m n : Option MethodId) → option_map method_number m ≡ option_map method_number n → m ≡ n
same_methods None None e = refl
same_methods None (Some n) e = absurd cc
same_methods (Some m) None e = absurd cc
same_methods (Some m) (Some n) e = let one : m.0 ≡ n.0 = cc in ap Some (same_method m n one)

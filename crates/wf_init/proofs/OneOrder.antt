-- What interfaces give is one list, and so what is initialized before a class.
use Rattle.std.proofs.Common.{◌≡◌, ℕ, List, [], ◌∷◌, ◌++◌, refl, sym, ap, subst, ◌∙◌, filter}
use Rattle.std.specs.Prelude.{option_to_list}
use Rattle.wf_data.specs.declared.class_info.ClassInfo.{ClassInfo}
use Rattle.wf_classes.specs.World.{superclass_of}
use Rattle.wf_init.specs.Order.{has_default, Enumerates, IsInitOrder}
use Rattle.wf_init.specs.Order as order

-- two lists, and the classes that are begun behind them
record Same (xs ys behind after : List ℕ) : Type 0 where
  pub lists : xs ≡ ys
  pub begun : behind ≡ after

one_list : (classes : List ClassInfo) (is begun xs behind ys after : List ℕ) → Enumerates classes is begun xs behind → Enumerates classes is begun ys after → Same xs ys behind after
one_list classes is begun xs behind ys after (order.Enumerates.none _) (order.Enumerates.none _) = record { lists = refl; begun = refl }
one_list classes is begun xs behind ys after (order.Enumerates.again i is' _ _ _ h e) (order.Enumerates.again _ _ _ _ _ k f) = one_list classes is' begun xs behind ys after e f
one_list classes is begun xs behind ys after (order.Enumerates.again i is' _ _ _ h e) (order.Enumerates.first _ _ _ _ _ _ _ k u f) = absurd cc
one_list classes is begun xs behind ys after (order.Enumerates.first i is' _ up rest mid _ h u e) (order.Enumerates.again _ _ _ _ _ k f) = absurd cc
one_list classes is begun xs behind ys after (order.Enumerates.first i is' _ up rest mid _ h u e) (order.Enumerates.first _ _ _ up2 rest2 mid2 _ k v f) =
    let above = one_list classes _ (i ∷ begun) up mid up2 mid2 u v in
    let next = one_list classes is' mid rest behind rest2 after e (subst (λ (m : List ℕ). Enumerates classes is' m rest2 after) (sym above.begun) f) in
    record { lists = ap (λ (zs : List ℕ). zs ++ i ∷ rest) above.lists ∙ ap (λ (zs : List ℕ). up2 ++ i ∷ zs) next.lists; begun = next.begun }

pub one_order : (classes : List ClassInfo) (c : ℕ) (xs ys : List ℕ) → IsInitOrder classes c xs → IsInitOrder classes c ys → xs ≡ ys
one_order classes c xs ys (order.IsInitOrder.interface k) (order.IsInitOrder.interface l) = refl
one_order classes c xs ys (order.IsInitOrder.interface k) (order.IsInitOrder.class _ _ l e) = absurd cc
one_order classes c xs ys (order.IsInitOrder.class _ _ k e) (order.IsInitOrder.interface l) = absurd cc
one_order classes c xs ys (order.IsInitOrder.class given a k e) (order.IsInitOrder.class again b l f) =
    let one = one_list classes _ [] given a again b e f in
    ap (λ (zs : List ℕ). option_to_list (superclass_of classes c) ++ filter (has_default classes) zs) one.lists

-- Going up by superclasses and superinterfaces, and how heights fall.
use Rattle.std.proofs.Common.{◌≡◌, ◌∙◌, ℕ, ◌<◌, ◌≤◌, List, length, get_or, refl, sym, ap, subst, arith, inl, inr, ◌⊎◌}
use Rattle.std.specs.Prelude.{slice_get}
use Rattle.std.proofs.lemmas.Option.{slice_get_within, slice_get-get_or, same_Some}
use Rattle.wf_data.specs.declared.class_info.ClassInfo.{ClassInfo}
use Rattle.wf_classes.specs.World.{AreHeights}
use Rattle.wf_classes.specs.Above.{IsDirectlyAbove, IsAbove, itself, through}
use Rattle.wf_resolve.proofs.Ranks.{is_lower}

pub above_above : (classes : List ClassInfo) (c d e : ℕ) → IsAbove classes c d → IsAbove classes d e → IsAbove classes c e
above_above classes c d e (itself x) b = b
above_above classes c d e (through x s y h rest) b = through x s e h (above_above classes s y e rest b)

-- a last step
pub record IsLast (classes : List ClassInfo) (c d : ℕ) : Type 0 where
  pub from : ℕ
  pub way : IsAbove classes c from
  pub direct : IsDirectlyAbove classes from d

pub last_step : (classes : List ClassInfo) (c d : ℕ) → IsAbove classes c d → (c ≡ d) ⊎ IsLast classes c d
last_step classes c d (itself x) = inl refl
last_step classes c d (through x s y h rest) = elim (last_step classes s y rest) [
  | inl e ↦ inr (record { from = x; way = itself x; direct = subst (IsDirectlyAbove classes x) e h })
  | inr l ↦ inr (record { from = l.from; way = through x s l.from h l.way; direct = l.direct })
]

pub by_last : (classes : List ClassInfo) (c e d : ℕ) → IsAbove classes c e → IsDirectlyAbove classes e d → IsAbove classes c d
by_last classes c e d a h = above_above classes c e d a (through e d d h (itself d))

pub record IsNoHigher (classes : List ClassInfo) (heights : List ℕ) (c d : ℕ) : Type 0 where
  pub there : d < length classes
  pub height : get_or heights d 0 ≤ get_or heights c 0

pub no_higher : (classes : List ClassInfo) (order heights : List ℕ) (c d : ℕ) → AreHeights classes order heights → c < length classes → IsAbove classes c d → IsNoHigher classes heights c d
no_higher classes order heights c d r k (itself x) = record { there = k; height = omega arith }
no_higher classes order heights c d r k (through x s y h rest) =
    let l = is_lower classes order heights x s r k h in
    let n = no_higher classes order heights s y r l.there rest in
    record { there = n.there; height = (let a = l.lower in let b = n.height in omega arith) }

pub same_height : (classes : List ClassInfo) (order heights : List ℕ) (c d : ℕ) → AreHeights classes order heights → c < length classes → d < length classes → get_or heights c 0 ≡ get_or heights d 0 → c ≡ d
same_height classes order heights c d r k l e =
    same_Some c d (sym (r.placed c (get_or heights c 0) (slice_get-get_or heights c 0 (omega (arith, r.counted)))) ∙ ap (slice_get order) e ∙ r.placed d (get_or heights d 0) (slice_get-get_or heights d 0 (omega (arith, r.counted))))

pub height_within : (classes : List ClassInfo) (order heights : List ℕ) (c : ℕ) → AreHeights classes order heights → c < length classes → get_or heights c 0 < length classes
height_within classes order heights c r k =
    let w = slice_get_within order (get_or heights c 0) c (r.placed c (get_or heights c 0) (slice_get-get_or heights c 0 (omega (arith, r.counted)))) in
    omega (arith, r.count)

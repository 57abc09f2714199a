-- The least number of slots with which bytes are the descriptor of a method. With more slots they are one too.
use Rattle.std.proofs.Common.{◌≡◌, ℕ, zero, suc, ◌+◌, ◌-◌, ◌<◌, ◌≤◌, ◌==◌, ◌&&◌, nat_lt, Bool, true, false, cond, if◌then◌else◌, List, [], ◌∷◌, Option, Some, None, is_none, option_map, refl, sym, ap, subst, ◌∙◌, arith, add-zero, ltb-false}
use Rattle.std.proofs.lemmas.Bool.Decides.{nat_tests}
use Rattle.std.specs.Option.{option_map_or}
use Rattle.wf_descriptor.specs.declared.machine.Follow.{Follow}
use Rattle.wf_descriptor.specs.declared.machine.Follow.TheVariants.{Params, End}
use Rattle.wf_descriptor.specs.declared.machine.State.{State}
use Rattle.wf_descriptor.specs.declared.machine.State.TheVariants.{Open, Behind, Return, Start, Name}
use Rattle.wf_descriptor.specs.Descriptors.{is_letter, kind_of, slots_of, type_step, name_step, param_step, step, end_fault, stop, is_method_descriptor}
use Rattle.wf_names.specs.Names.{is_forbidden}
use Rattle.wf_listing.specs.Lines.{slots_from}

-- ---- one more slot

abbrev pub more : Follow → Follow
more (Params n) = Params (n + 1)
more End = End

abbrev pub raised : State → State
raised (Open n) = Open (n + 1)
raised (Behind f) = Behind (more f)
raised Return = Return
raised (Start dims f) = Start dims (more f)
raised (Name begun f) = Name begun (more f)

type_raised : (dims : ℕ) (f : Follow) (b : ℕ) → type_step dims (more f) b ≡ option_map raised (type_step dims f b)
type_raised dims f b = go (is_letter b) (b == 76) (b == 91 && nat_lt 0 dims)
  where
    go : (p q r : Bool)
        → (if p then Some (Behind (more f)) else if q then Some (Name false (more f)) else if r then Some (Start (dims - 1) (more f)) else None)
        ≡ option_map raised (if p then Some (Behind f) else if q then Some (Name false f) else if r then Some (Start (dims - 1) f) else None)
    go true q r = refl
    go false true r = refl
    go false false true = refl
    go false false false = refl

name_raised : (begun : Bool) (f : Follow) (b : ℕ) → name_step begun (more f) b ≡ option_map raised (name_step begun f b)
name_raised begun f b = go (b == 47) (b == 59) (is_forbidden b) begun
  where
    go : (p q r s : Bool)
        → (if p then (if s then Some (Name false (more f)) else None) else if q then (if s then Some (Behind (more f)) else None) else if r then None else Some (Name true (more f)))
        ≡ option_map raised (if p then (if s then Some (Name false f) else None) else if q then (if s then Some (Behind f) else None) else if r then None else Some (Name true f))
    go true q r true = refl
    go true q r false = refl
    go false true r true = refl
    go false true r false = refl
    go false false true s = refl
    go false false false s = refl

-- where there is a step, there is one with one more slot
stepped : (o p : Option State) (t : State) → p ≡ option_map raised o → o ≡ Some t → p ≡ Some (raised t)
stepped o p t e h = e ∙ ap (option_map raised) h

param_raised : (n b : ℕ) (t : State) → param_step n b ≡ Some t → param_step (n + 1) b ≡ Some (raised t)
param_raised n b t h = go (b == 41) (nat_lt n (slots_of (kind_of b))) refl h
  where
    left : ℕ
    left = n - slots_of (kind_of b)

    go : (p q : Bool) → nat_lt n (slots_of (kind_of b)) ≡ q
        → (if p then Some Return else if q then None else type_step 255 (Params (n - slots_of (kind_of b))) b) ≡ Some t
        → (if p then Some Return else if nat_lt (n + 1) (slots_of (kind_of b)) then None else type_step 255 (Params (n + 1 - slots_of (kind_of b))) b) ≡ Some (raised t)
    go true q e k = let same : Return ≡ t = cc in subst (λ (s : State). Some Return ≡ Some (raised s)) same refl
    go false true e k = absurd cc
    go false false e k =
        let few : slots_of (kind_of b) ≤ n = ltb-false n (slots_of (kind_of b)) e in
        let one : nat_lt (n + 1) (slots_of (kind_of b)) ≡ false = grind (arith, nat_tests) in
        let one_more : n + 1 - slots_of (kind_of b) ≡ n - slots_of (kind_of b) + 1 = omega arith in
        rw (one, one_more) (stepped (type_step 255 (Params (n - slots_of (kind_of b))) b) (type_step 255 (Params (n - slots_of (kind_of b) + 1)) b) t (type_raised 255 (Params (n - slots_of (kind_of b))) b) k)

open_raised : (n b : ℕ) → step (Open (n + 1)) b ≡ option_map raised (step (Open n) b)
open_raised n b = go (b == 40)
  where
    go : (p : Bool) → (if p then Some (Behind (Params (n + 1))) else None) ≡ option_map raised (if p then Some (Behind (Params n)) else None)
    go true = refl
    go false = refl

return_raised : (b : ℕ) → step Return b ≡ option_map raised (step Return b)
return_raised b = go (b == 86)
  where
    go : (p : Bool) → (if p then Some (Behind End) else type_step 255 End b) ≡ option_map raised (if p then Some (Behind End) else type_step 255 End b)
    go true = refl
    go false = type_raised 255 End b

step_raised : (s : State) (b : ℕ) (t : State) → step s b ≡ Some t → step (raised s) b ≡ Some (raised t)
step_raised (Open n) b t h = stepped (step (Open n) b) (step (Open (n + 1)) b) t (open_raised n b) h
step_raised (Behind (Params n)) b t h = param_raised n b t h
step_raised (Behind End) b t h = absurd cc
step_raised Return b t h = stepped (step Return b) (step Return b) t (return_raised b) h
step_raised (Start dims f) b t h = stepped (type_step dims f b) (type_step dims (more f) b) t (type_raised dims f b) h
step_raised (Name begun f) b t h = stepped (name_step begun f b) (name_step begun (more f) b) t (name_raised begun f b) h

end_raised : (s : State) (at : ℕ) → end_fault s at ≡ None → end_fault (raised s) at ≡ None
end_raised (Open n) at h = absurd cc
end_raised (Behind (Params n)) at h = absurd cc
end_raised (Behind End) at h = refl
end_raised Return at h = absurd cc
end_raised (Start dims f) at h = absurd cc
end_raised (Name begun f) at h = absurd cc

stop_raised : (bytes : List ℕ) (s : State) (at : ℕ) → stop s at bytes ≡ None → stop (raised s) at bytes ≡ None
stop_raised [] s at h = end_raised s at h
stop_raised (b ∷ bytes) s at h = go (step s b) (λ t k. stop_raised bytes t (at + 1) k) refl h
  where
    go : (o : Option State) → ((t : State) → stop t (at + 1) bytes ≡ None → stop (raised t) (at + 1) bytes ≡ None) → step s b ≡ o
        → option_map_or (λ t. stop t (at + 1) bytes) o (Some at) ≡ None → option_map_or (λ t. stop t (at + 1) bytes) (step (raised s) b) (Some at) ≡ None
    go None behind e k = absurd cc
    go (Some t) behind e k = ap (λ (o : Option State). option_map_or (λ t. stop t (at + 1) bytes) o (Some at)) (step_raised s b t e) ∙ behind t k

none_of : (o : Option ℕ) → is_none o ≡ true → o ≡ None
none_of None h = refl
none_of (Some x) h = absurd cc

with_one : (n : ℕ) (desc : List ℕ) → is_method_descriptor n desc ≡ true → is_method_descriptor (n + 1) desc ≡ true
with_one n desc h = ap is_none (stop_raised desc (Open n) 0 (none_of (stop (Open n) 0 desc) h))

with_many : (d n : ℕ) (desc : List ℕ) → is_method_descriptor n desc ≡ true → is_method_descriptor (n + d) desc ≡ true
with_many zero n desc h = let same : n + 0 ≡ n = omega arith in ap (λ (m : ℕ). is_method_descriptor m desc) same ∙ h
with_many (suc d) n desc h =
    let same : n + suc d ≡ n + d + 1 = omega arith in
    ap (λ (m : ℕ). is_method_descriptor m desc) same ∙ with_one (n + d) desc (with_many d n desc h)

with_more : (m n : ℕ) (desc : List ℕ) → m ≤ n → is_method_descriptor m desc ≡ true → is_method_descriptor n desc ≡ true
with_more m n desc le h = let same : m + (n - m) ≡ n = omega arith in ap (λ (k : ℕ). is_method_descriptor k desc) (sym same) ∙ with_many (n - m) m desc h

-- ---- halving

-- with fewer slots the bytes are none
pub record NoneBelow (desc : List ℕ) (n : ℕ) : Type 0 where
  pub none : (k : ℕ) → k < n → is_method_descriptor k desc ≡ false

fewer : (k n : ℕ) (desc : List ℕ) → k ≤ n → is_method_descriptor n desc ≡ false → is_method_descriptor k desc ≡ false
fewer k n desc le h = go (is_method_descriptor k desc) refl
  where
    go : (v : Bool) → is_method_descriptor k desc ≡ v → v ≡ false
    go false e = refl
    go true e = let yes : is_method_descriptor n desc ≡ true = with_more k n desc le e in cc

pub none_below_zero : (desc : List ℕ) → NoneBelow desc 0
none_below_zero desc = record { none = λ k lt. absurd (omega arith) }

pub none_below_next : (desc : List ℕ) (n : ℕ) → is_method_descriptor n desc ≡ false → NoneBelow desc (n + 1)
none_below_next desc n h = record { none = λ k lt. fewer k n desc (omega arith) h }

least_at : (d left n low : ℕ) (desc : List ℕ) → low ≡ n + d → d < left → NoneBelow desc low → is_method_descriptor low desc ≡ true → slots_from left n desc ≡ Some low
unfolding slots_from
least_at d zero n low desc at lt below is = absurd (omega arith)
least_at zero (suc left) n low desc at lt below is =
    let same : low ≡ n = omega arith in
    let here : is_method_descriptor n desc ≡ true = ap (λ (m : ℕ). is_method_descriptor m desc) (sym same) ∙ is in
    rw here (ap (λ (m : ℕ). Some m) (sym same))
least_at (suc d) (suc left) n low desc at lt below is =
    let here : is_method_descriptor n desc ≡ false = below.none n (omega arith) in
    rw here (least_at d left (n + 1) low desc (omega arith) (omega arith) below is)

pub is_least : (low high : ℕ) (desc : List ℕ) → high ≤ low → low ≤ high → high ≤ 254 → NoneBelow desc low → is_method_descriptor high desc ≡ true → slots_from 255 0 desc ≡ Some low
is_least low high desc ge le top below is =
    let same : high ≡ low = omega arith in
    least_at low 255 0 low desc (omega arith) (omega arith) below (ap (λ (m : ℕ). is_method_descriptor m desc) (sym same) ∙ is)

none_at : (left n : ℕ) (desc : List ℕ) → n + left ≤ 255 → NoneBelow desc 255 → slots_from left n desc ≡ None
unfolding slots_from
none_at zero n desc le below = refl
none_at (suc left) n desc le below =
    let here : is_method_descriptor n desc ≡ false = below.none n (omega arith) in
    rw here (none_at left (n + 1) desc (omega arith) below)

pub is_none_at_all : (desc : List ℕ) → is_method_descriptor 254 desc ≡ false → slots_from 255 0 desc ≡ None
is_none_at_all desc h = none_at 255 0 desc (omega arith) (none_below_next desc 254 h)

pub ruleset halved = (none_below_zero, none_below_next, is_least, is_none_at_all)

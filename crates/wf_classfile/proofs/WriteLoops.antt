-- Writing items one after the other, as a loop does.
use Rattle.std.proofs.Common.{◌≡◌, ℕ, ◌+◌, ◌≤◌, ◌<◌, Bool, true, false, not, ◌&&◌, List, [], ◌∷◌, ◌++◌, Option, Some, None, get_or, length, drop, refl, sym, ap, subst, ◌∙◌}
use Rattle.std.proofs.lemmas.List.{at_drop_more, at_drop_all}
use Rattle.wf_data.specs.declared.class_info.FieldInfo.{FieldInfo}
use Rattle.wf_data.specs.declared.class_info.Handler.{Handler}
use Rattle.wf_data.specs.declared.class_info.MethodInfo.{MethodInfo}
use Rattle.wf_data.specs.declared.class_info.PoolEntry.{PoolEntry}
use Rattle.wf_grammar.specs.ClassFile.{Key}
use Rattle.wf_grammar.specs.Writing.{Writer, ◌>>=◌, asked, class_place, put_place, is_wide, put_pool_place, put_places, put_field, put_fields, put_handler, put_handlers, put_method, put_methods, put_interfaces}
use Rattle.wf_classfile.specs.declared.fault.SpellFault.{SpellFault}
use Rattle.wf_classfile.specs.declared.fault.SpellFault.TheVariants.{NotSpellable, NoMemory}
use Rattle.wf_classfile.specs.Writers.{Fails}

-- A writer of a list writes its first item by a step, and the others with what this leaves of what is known.
pub record ByStep {X K : Type 0} (F : K → List X → Writer) (step : K → X → Writer) (next : K → X → K) : Type 0 where
  pub more : (k : K) (x : X) (xs : List X) (out : List ℕ) → F k (x ∷ xs) out ≡ (step k x out >>= F (next k x) xs)

-- where a step fails, so does the whole
pub bind_fails : (e : SpellFault) (written : Option (List ℕ)) (f : Writer) → Fails e written → Fails e (written >>= f)
bind_fails NoMemory written f h = tt
bind_fails NotSpellable written f h = ap (λ (z : Option (List ℕ)). z >>= f) h

next_item : {X K : Type 0} (F : K → List X → Writer) (step : K → X → Writer) (next : K → X → K) → ByStep F step next → (xs : List X) (i : ℕ) (d : X) (k : K) (out : List ℕ) → i < length xs
    → F k (drop i xs) out ≡ (step k (get_or xs i d) out >>= F (next k (get_or xs i d)) (drop (i + 1) xs))
next_item {X = X} F step next steps xs i d k out lt = at_drop_more (λ (ys : List X). F k ys out) xs i d lt ∙ steps.more k (get_or xs i d) (drop (i + 1) xs) out

go_on : {X K : Type 0} (F : K → List X → Writer) (step : K → X → Writer) (next : K → X → K) → ByStep F step next → (xs : List X) (i : ℕ) (d x : X) (k l : K) (out new : List ℕ) (total : Option (List ℕ)) → i < length xs
    → x ≡ get_or xs i d → step k x out ≡ Some new → l ≡ next k x → F k (drop i xs) out ≡ total → F l (drop (i + 1) xs) new ≡ total
go_on {X = X} {K = K} F step next steps xs i d x k l out new total lt is h e so_far =
    let y = get_or xs i d in
    let rest = F (next k y) (drop (i + 1) xs) in
    let stepped : step k y out ≡ Some new = ap (λ (z : X). step k z out) (sym is) ∙ h in
    let known : l ≡ next k y = e ∙ ap (λ (z : X). next k z) is in
    ap (λ (m : K). F m (drop (i + 1) xs) new) known ∙ sym (ap (λ (z : Option (List ℕ)). z >>= rest) stepped) ∙ sym (next_item F step next steps xs i d k out lt) ∙ so_far

stop : {X K : Type 0} (F : K → List X → Writer) (step : K → X → Writer) (next : K → X → K) → ByStep F step next → (e : SpellFault) (xs : List X) (i : ℕ) (d : X) (k : K) (out : List ℕ) (total : Option (List ℕ)) → i < length xs
    → Fails e (step k (get_or xs i d) out) → F k (drop i xs) out ≡ total → Fails e total
stop F step next steps e xs i d k out total lt h so_far =
    let rest = F (next k (get_or xs i d)) (drop (i + 1) xs) in
    let same : (step k (get_or xs i d) out >>= rest) ≡ total = sym (next_item F step next steps xs i d k out lt) ∙ so_far in
    subst (λ (t : Option (List ℕ)). Fails e t) same (bind_fails e (step k (get_or xs i d) out) rest h)

-- ---- fields

fields : (pool : List PoolEntry) → ByStep (put_fields pool) (put_field pool) (λ met f. met ++ (f.name, f.desc) ∷ [])
unfolding put_fields
fields pool = record { more = λ k x xs out. refl }

pub fields_go_on : (pool : List PoolEntry) (fs : List FieldInfo) (i : ℕ) (d f : FieldInfo) (met met' : List Key) (out new : List ℕ) (total : Option (List ℕ)) → i < length fs → f ≡ get_or fs i d → put_field pool met f out ≡ Some new
    → met' ≡ met ++ (f.name, f.desc) ∷ [] → put_fields pool met (drop i fs) out ≡ total → put_fields pool met' (drop (i + 1) fs) new ≡ total
fields_go_on pool fs i d f met met' out new total lt is h e so_far = go_on (put_fields pool) (put_field pool) (λ met f. met ++ (f.name, f.desc) ∷ []) (fields pool) fs i d f met met' out new total lt is h e so_far

pub fields_stop : (e : SpellFault) (pool : List PoolEntry) (fs : List FieldInfo) (i : ℕ) (d : FieldInfo) (met : List Key) (out : List ℕ) (total : Option (List ℕ)) → i < length fs → Fails e (put_field pool met (get_or fs i d) out)
    → put_fields pool met (drop i fs) out ≡ total → Fails e total
fields_stop e pool fs i d met out total lt h so_far = stop (put_fields pool) (put_field pool) (λ met f. met ++ (f.name, f.desc) ∷ []) (fields pool) e fs i d met out total lt h so_far

pub fields_are_done : (pool : List PoolEntry) (fs : List FieldInfo) (i : ℕ) (met : List Key) (out : List ℕ) (total : Option (List ℕ)) → length fs ≤ i → put_fields pool met (drop i fs) out ≡ total → total ≡ Some out
unfolding put_fields
fields_are_done pool fs i met out total le so_far = sym so_far ∙ at_drop_all (λ (ys : List FieldInfo). put_fields pool met ys out) fs i le

-- ---- methods

methods : (pool : List PoolEntry) → ByStep (put_methods pool) (put_method pool) (λ met m. met ++ (m.name, m.desc) ∷ [])
unfolding put_methods
methods pool = record { more = λ k x xs out. refl }

pub methods_go_on : (pool : List PoolEntry) (ms : List MethodInfo) (i : ℕ) (d m : MethodInfo) (met met' : List Key) (out new : List ℕ) (total : Option (List ℕ)) → i < length ms → m ≡ get_or ms i d → put_method pool met m out ≡ Some new
    → met' ≡ met ++ (m.name, m.desc) ∷ [] → put_methods pool met (drop i ms) out ≡ total → put_methods pool met' (drop (i + 1) ms) new ≡ total
methods_go_on pool ms i d m met met' out new total lt is h e so_far = go_on (put_methods pool) (put_method pool) (λ met m. met ++ (m.name, m.desc) ∷ []) (methods pool) ms i d m met met' out new total lt is h e so_far

pub methods_stop : (e : SpellFault) (pool : List PoolEntry) (ms : List MethodInfo) (i : ℕ) (d : MethodInfo) (met : List Key) (out : List ℕ) (total : Option (List ℕ)) → i < length ms → Fails e (put_method pool met (get_or ms i d) out)
    → put_methods pool met (drop i ms) out ≡ total → Fails e total
methods_stop e pool ms i d met out total lt h so_far = stop (put_methods pool) (put_method pool) (λ met m. met ++ (m.name, m.desc) ∷ []) (methods pool) e ms i d met out total lt h so_far

pub methods_are_done : (pool : List PoolEntry) (ms : List MethodInfo) (i : ℕ) (met : List Key) (out : List ℕ) (total : Option (List ℕ)) → length ms ≤ i → put_methods pool met (drop i ms) out ≡ total → total ≡ Some out
unfolding put_methods
methods_are_done pool ms i met out total le so_far = sym so_far ∙ at_drop_all (λ (ys : List MethodInfo). put_methods pool met ys out) ms i le

-- ---- handlers

abbrev all_handlers : Unit {0} → List Handler → Writer
all_handlers u = put_handlers

abbrev one_handler : Unit {0} → Handler → Writer
one_handler u = put_handler

handlers : ByStep all_handlers one_handler (λ u h. u)
unfolding put_handlers
handlers = record { more = λ k x xs out. refl }

pub handlers_go_on : (hs : List Handler) (i : ℕ) (d : Handler) (out new : List ℕ) (total : Option (List ℕ)) → i < length hs → put_handler (get_or hs i d) out ≡ Some new → put_handlers (drop i hs) out ≡ total → put_handlers (drop (i + 1) hs) new ≡ total
handlers_go_on hs i d out new total lt h so_far = go_on all_handlers one_handler (λ u h. u) handlers hs i d (get_or hs i d) tt tt out new total lt refl h refl so_far

pub handlers_stop : (e : SpellFault) (hs : List Handler) (i : ℕ) (d : Handler) (out : List ℕ) (total : Option (List ℕ)) → i < length hs → Fails e (put_handler (get_or hs i d) out) → put_handlers (drop i hs) out ≡ total → Fails e total
handlers_stop e hs i d out total lt h so_far = stop all_handlers one_handler (λ u h. u) handlers e hs i d tt out total lt h so_far

pub handlers_are_done : (hs : List Handler) (i : ℕ) (out : List ℕ) (total : Option (List ℕ)) → length hs ≤ i → put_handlers (drop i hs) out ≡ total → total ≡ Some out
unfolding put_handlers
handlers_are_done hs i out total le so_far = sym so_far ∙ at_drop_all (λ (ys : List Handler). put_handlers ys out) hs i le

-- ---- interfaces

abbrev all_interfaces : List PoolEntry → Unit {0} → List (List ℕ) → Writer
all_interfaces pool u = put_interfaces pool

abbrev one_interface : List PoolEntry → Unit {0} → List ℕ → Writer
one_interface pool u name = put_place (class_place pool name)

interfaces : (pool : List PoolEntry) → ByStep (all_interfaces pool) (one_interface pool) (λ u name. u)
unfolding put_interfaces
interfaces pool = record { more = λ k x xs out. refl }

pub interfaces_go_on : (pool : List PoolEntry) (names : List (List ℕ)) (i : ℕ) (d name : List ℕ) (out new : List ℕ) (total : Option (List ℕ)) → i < length names → name ≡ get_or names i d → put_place (class_place pool name) out ≡ Some new
    → put_interfaces pool (drop i names) out ≡ total → put_interfaces pool (drop (i + 1) names) new ≡ total
interfaces_go_on pool names i d name out new total lt is h so_far = go_on (all_interfaces pool) (one_interface pool) (λ u name. u) (interfaces pool) names i d name tt tt out new total lt is h refl so_far

pub interfaces_stop : (e : SpellFault) (pool : List PoolEntry) (names : List (List ℕ)) (i : ℕ) (d name : List ℕ) (out : List ℕ) (total : Option (List ℕ)) → i < length names → name ≡ get_or names i d → Fails e (put_place (class_place pool name) out)
    → put_interfaces pool (drop i names) out ≡ total → Fails e total
interfaces_stop e pool names i d name out total lt is h so_far =
    let fails : Fails e (put_place (class_place pool (get_or names i d)) out) = subst (λ (n : List ℕ). Fails e (put_place (class_place pool n) out)) is h in
    stop (all_interfaces pool) (one_interface pool) (λ u name. u) (interfaces pool) e names i d tt out total lt fails so_far

pub interfaces_are_done : (pool : List PoolEntry) (names : List (List ℕ)) (i : ℕ) (out : List ℕ) (total : Option (List ℕ)) → length names ≤ i → put_interfaces pool (drop i names) out ≡ total → total ≡ Some out
unfolding put_interfaces
interfaces_are_done pool names i out total le so_far = sym so_far ∙ at_drop_all (λ (ys : List (List ℕ)). put_interfaces pool ys out) names i le

-- ---- places of the pool

places : ByStep put_places put_pool_place (λ second e. not second && is_wide e)
unfolding put_places
places = record { more = λ k x xs out. refl }

pub places_go_on : (es : List PoolEntry) (i : ℕ) (d e : PoolEntry) (second second' : Bool) (out new : List ℕ) (total : Option (List ℕ)) → i < length es → e ≡ get_or es i d → put_pool_place second e out ≡ Some new
    → second' ≡ (not second && is_wide e) → put_places second (drop i es) out ≡ total → put_places second' (drop (i + 1) es) new ≡ total
places_go_on es i d e second second' out new total lt is h same so_far = go_on put_places put_pool_place (λ second e. not second && is_wide e) places es i d e second second' out new total lt is h same so_far

pub places_stop : (e : SpellFault) (es : List PoolEntry) (i : ℕ) (d : PoolEntry) (second : Bool) (out : List ℕ) (total : Option (List ℕ)) → i < length es → Fails e (put_pool_place second (get_or es i d) out)
    → put_places second (drop i es) out ≡ total → Fails e total
places_stop e es i d second out total lt h so_far = stop put_places put_pool_place (λ second e. not second && is_wide e) places e es i d second out total lt h so_far

all_places : (es : List PoolEntry) (i : ℕ) (second : Bool) (out : List ℕ) (total : Option (List ℕ)) → length es ≤ i → put_places second (drop i es) out ≡ total → total ≡ (asked (not second) >>= λ fine. Some out)
unfolding put_places
all_places es i second out total le so_far = sym so_far ∙ at_drop_all (λ (ys : List PoolEntry). put_places second ys out) es i le

pub places_are_done : (es : List PoolEntry) (i : ℕ) (second : Bool) (out : List ℕ) (total : Option (List ℕ)) → length es ≤ i → second ≡ false → put_places second (drop i es) out ≡ total → total ≡ Some out
places_are_done es i second out total le e so_far = all_places es i second out total le so_far ∙ ap (λ (b : Bool). asked (not b) >>= λ fine. Some out) e

-- the last constant lacks its second place
pub places_end_early : (es : List PoolEntry) (i : ℕ) (second : Bool) (out : List ℕ) (total : Option (List ℕ)) → length es ≤ i → second ≡ true → put_places second (drop i es) out ≡ total → total ≡ None
places_end_early es i second out total le e so_far = all_places es i second out total le so_far ∙ ap (λ (b : Bool). asked (not b) >>= λ fine. Some out) e

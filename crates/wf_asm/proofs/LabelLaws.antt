-- The map of labels, as the list of its definition.
use Rattle.std.proofs.Common.{◌≡◌, ℕ, Bool, true, false, cond, if◌then◌else◌, List, [], ◌∷◌, ◌++◌, map, Option, Some, is_some, refl, sym, ap, ◌∙◌}
use Rattle.std.proofs.lemmas.List.{map-append}
use Rattle.std.specs.Borrow.{Bor}
use Rattle.std.specs.Str.{bytes_eq}
use Rattle.std.specs.Map.{lookup}
use Rattle.indexmap.specs.IndexMap.{insert_entry}
use Rattle.wf_asm.specs.declared.labels.Spot.{Spot}
use Rattle.wf_asm.specs.Building.{Label, spot_of, with_label}

-- an entry of the map
abbrev pub Held : Type 0
Held = Bor (List ℕ) × Spot

abbrev pub shown : Held → Label
shown e = (e.0.now, e.1)

abbrev pub same_name : Bor (List ℕ) → Bor (List ℕ) → Bool
same_name a b = bytes_eq a.now b.now

pub is_found : (name : List ℕ) (es : List Held) (now : List Label) → map shown es ≡ now → lookup (λ (k : Bor (List ℕ)). bytes_eq name k.now) es ≡ spot_of now name
is_found name es now view = go es ∙ ap (λ (ls : List Label). spot_of ls name) view
  where
    go : (fs : List Held) → lookup (λ (k : Bor (List ℕ)). bytes_eq name k.now) fs ≡ spot_of (map shown fs) name
    go [] = refl
    go (f ∷ fs) = ap (λ (o : Option Spot). cond (bytes_eq name f.0.now) (Some f.1) o) (go fs)

goes_last : (k : Bor (List ℕ)) (at : Spot) (es : List Held) → is_some (spot_of (map shown es) k.now) ≡ false → insert_entry same_name es k at ≡ es ++ (k, at) ∷ []
goes_last k at [] none = refl
goes_last k at (e ∷ es) none = go (bytes_eq k.now e.0.now) (goes_last k at es) none
  where
    go : (b : Bool) → (is_some (spot_of (map shown es) k.now) ≡ false → insert_entry same_name es k at ≡ es ++ (k, at) ∷ [])
        → is_some (if b then Some e.1 else spot_of (map shown es) k.now) ≡ false → (if b then (e.0, at) ∷ es else e ∷ insert_entry same_name es k at) ≡ e ∷ (es ++ (k, at) ∷ [])
    go true ih h = cc
    go false ih h = ap (λ (fs : List Held). e ∷ fs) (ih h)

pub label_is_added : (k : Bor (List ℕ)) (at : Spot) (es new : List Held) (now : List Label) → map shown es ≡ now → is_some (spot_of now k.now) ≡ false → new ≡ insert_entry same_name es k at
    → map shown new ≡ with_label now k.now at
label_is_added k at es new now view none is =
    let here : is_some (spot_of (map shown es) k.now) ≡ false = ap (λ (ls : List Label). is_some (spot_of ls k.now)) view ∙ none in
    let grown : map shown new ≡ map shown es ++ (k.now, at) ∷ [] = ap (map shown) (is ∙ goes_last k at es here) ∙ map-append shown es ((k, at) ∷ []) in
    let due : with_label now k.now at ≡ now ++ (k.now, at) ∷ [] = ap (λ (b : Bool). if b then now else now ++ (k.now, at) ∷ []) none in
    grown ∙ ap (λ (ls : List Label). ls ++ (k.now, at) ∷ []) view ∙ sym due

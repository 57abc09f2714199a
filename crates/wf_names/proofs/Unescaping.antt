-- Reading a name byte after byte: what is there so far in front of what the rest gives.
use Rattle.std.proofs.Common.{◌≡◌, ℕ, ◌+◌, ◌<◌, ◌≤◌, true, false, cond, eqb, List, [], ◌∷◌, ◌++◌, length, get_or, drop, Option, Some, None, refl, sym, ap, ◌∙◌, append_assoc, add-one, drop-cons}
use Rattle.std.proofs.lemmas.List.{append-nil, drop_all}
use Rattle.std.specs.Prelude.{option_map, option_to_list}
use Rattle.wf_names.specs.declared.name_form.Escape.{Escape}
use Rattle.wf_names.specs.declared.name_form.Escape.TheVariants.{Outside, Begun, High}
use Rattle.wf_names.specs.NameForm.{is_plain, escape_of, with_byte, escape_on, unescaped_from}

-- what is there before, and what the rest gives
abbrev pub with_front : List ℕ → Option (List ℕ) → Option (List ℕ)
with_front front rest = option_map (λ bytes. front ++ bytes) rest

-- a byte, by what it gives
abbrev step_gives : Option (Escape × Option ℕ) → List ℕ → Option (List ℕ)
step_gives None bytes = None
step_gives (Some s) bytes = with_front (option_to_list s.1) (unescaped_from s.0 bytes)

front_nil : (rest : Option (List ℕ)) → with_front [] rest ≡ rest
front_nil None = refl
front_nil (Some bytes) = refl

byte_on : (b : ℕ) (bytes : List ℕ) → with_byte (Some b) (unescaped_from Outside bytes) ≡ with_front (b ∷ []) (unescaped_from Outside bytes)
byte_on b bytes = refl

step : (e : Escape) (b : ℕ) (bytes : List ℕ) → unescaped_from e (b ∷ bytes) ≡ step_gives (escape_on e b) bytes
unfolding unescaped_from
step Outside b bytes =
    elim (eqb b 92) as (λ v. cond v (unescaped_from Begun bytes) (with_byte (cond (is_plain b) (Some b) None) (unescaped_from Outside bytes))
    ≡ step_gives (cond v (Some (Begun, None)) (cond (is_plain b) (Some (Outside, Some b)) None)) bytes) [
      | true ↦ sym (front_nil (unescaped_from Begun bytes))
      | false ↦ elim (is_plain b) as (λ v. with_byte (cond v (Some b) None) (unescaped_from Outside bytes) ≡ step_gives (cond v (Some (Outside, Some b)) None) bytes) [ true ↦ refl | false ↦ refl ]
    ]
step Begun b bytes = sym (front_nil (unescaped_from (High b) bytes))
step (High h) b bytes =
    elim (escape_of h b) as (λ v. with_byte v (unescaped_from Outside bytes) ≡ step_gives (option_map (λ byte. (Outside, Some byte)) v) bytes) [ None ↦ refl | Some byte ↦ refl ]

at_byte : (e : Escape) (word : List ℕ) (i : ℕ) → i < length word → unescaped_from e (drop i word) ≡ step_gives (escape_on e (get_or word i 0)) (drop (i + 1) word)
at_byte e word i lt =
    let cut : drop i word ≡ get_or word i 0 ∷ drop (i + 1) word = rw (add-one, drop-cons word i 0) refl in
    rw cut (step e (get_or word i 0) (drop (i + 1) word))

regroup : (a b : List ℕ) (rest : Option (List ℕ)) → with_front a (with_front b rest) ≡ with_front (a ++ b) rest
regroup a b None = refl
regroup a b (Some bytes) = simp append_assoc

pub goes_on : (front word : List ℕ) (e next : Escape) (byte : Option ℕ) (i : ℕ) (total : Option (List ℕ)) → i < length word → escape_on e (get_or word i 0) ≡ Some (next, byte)
    → with_front front (unescaped_from e (drop i word)) ≡ total → with_front (front ++ option_to_list byte) (unescaped_from next (drop (i + 1) word)) ≡ total
goes_on front word e next byte i total lt h so_far =
    let one : unescaped_from e (drop i word) ≡ with_front (option_to_list byte) (unescaped_from next (drop (i + 1) word)) = rw (at_byte e word i lt, h) refl in
    sym (regroup front (option_to_list byte) (unescaped_from next (drop (i + 1) word))) ∙ ap (λ (r : Option (List ℕ)). with_front front r) (sym one) ∙ so_far

pub stops : (front word : List ℕ) (e : Escape) (i : ℕ) (total : Option (List ℕ)) → i < length word → escape_on e (get_or word i 0) ≡ None
    → with_front front (unescaped_from e (drop i word)) ≡ total → total ≡ None
stops front word e i total lt h so_far =
    let one : unescaped_from e (drop i word) ≡ None = rw (at_byte e word i lt, h) refl in
    sym so_far ∙ ap (λ (r : Option (List ℕ)). with_front front r) one

pub ends : (front word : List ℕ) (i : ℕ) (total : Option (List ℕ)) → length word ≤ i → with_front front (unescaped_from Outside (drop i word)) ≡ total → total ≡ Some front
unfolding unescaped_from
ends front word i total le so_far =
    let one : with_front front (unescaped_from Outside (drop i word)) ≡ Some front = rw (drop_all i word le) (ap (λ (bytes : List ℕ). Some bytes) (append-nil front)) in
    sym so_far ∙ one

-- a word may not end in an escape
pub ends_begun : (front word : List ℕ) (i : ℕ) (total : Option (List ℕ)) → length word ≤ i → with_front front (unescaped_from Begun (drop i word)) ≡ total → total ≡ None
unfolding unescaped_from
ends_begun front word i total le so_far =
    let one : with_front front (unescaped_from Begun (drop i word)) ≡ None = rw (drop_all i word le) refl in
    sym so_far ∙ one

pub ends_high : (front word : List ℕ) (h i : ℕ) (total : Option (List ℕ)) → length word ≤ i → with_front front (unescaped_from (High h) (drop i word)) ≡ total → total ≡ None
unfolding unescaped_from
ends_high front word h i total le so_far =
    let one : with_front front (unescaped_from (High h) (drop i word)) ≡ None = rw (drop_all i word le) refl in
    sym so_far ∙ one

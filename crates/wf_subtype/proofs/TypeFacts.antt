-- The types and what they are names of.
use Rattle.std.proofs.Common.{◌≡◌, ℕ, ◌+◌, ◌<◌, ◌≤◌, List, [], ◌∷◌, ◌++◌, length, Option, Some, None, refl, sym, ap, subst, ◌∙◌, arith, inl, inr, ◌⊎◌, rules, zero, suc, get_or, ◌-◌, ◌==◌, ◌&&◌, Bool, true, false}
use Rattle.std.specs.Option.{option_map_or}
use Rattle.std.specs.Prelude.{if◌then◌else◌, slice_get, option_map, IsSome}
use Rattle.std.proofs.lemmas.Bool.{cases_lt}
use Rattle.std.proofs.lemmas.List.{length_push}
use Rattle.std.proofs.lemmas.Option.{slice_get_within, slice_get-get_or}
use Rattle.wf_data.specs.declared.class_info.ClassInfo.{ClassInfo}
use Rattle.wf_classes.specs.World.{name_at}
use Rattle.wf_classes.proofs.KeyLists.{get_push}
use Rattle.wf_subtype.specs.declared.reference.Inner.TheVariants.{Class, Primitive}
use Rattle.wf_subtype.specs.declared.reference.Inner.{Inner}
use Rattle.wf_subtype.specs.declared.reference.Reference.{Reference}
use Rattle.wf_subtype.specs.References.{Refers, IsReferenceOf, letters, inner_text, inner_number, is_primitive, component_of, name_of}
use Rattle.wf_subtype.proofs.Naming.{array_tail, inner_name, inner_letter}
use Rattle.wf_subtype.specs.Rows.{IsThere}
use Rattle.wf_subtype.specs.Universe.{IsType, IsUniverse}
use Rattle.wf_subtype.specs.Universe.IsType.{class, made, given}
use Rattle.wf_subtype.specs.Subtypes.{IsNameOfSome, AreFirstReferences, AreReferences, IsDeepest}

-- each type's name is that of a class or an array
pub type_named : (classes : List ClassInfo) (named : List (List ℕ)) (name : List ℕ) → IsType classes named name → IsNameOfSome classes name
type_named classes named name (class h) = record {
  reference = record { dims = 0; inner = Class (record { 0 = h.place }) };
  refers = record { dims = omega arith; text = ap (λ (o : Option ClassInfo). option_map (λ (k : ClassInfo). k.name) o) h.there ∙ ap (λ (n : List ℕ). Some n) h.has.named };
}
type_named classes named name (made array h) = record { reference = array.reference; refers = array.refers }
type_named classes named name (given array h) = record { reference = array.reference; refers = array.refers }

pub all_named : (classes : List ClassInfo) (named names : List (List ℕ)) → IsUniverse classes named names → (i : ℕ) (name : List ℕ) → slice_get names i ≡ Some name → IsNameOfSome classes name
all_named classes named names h i name e = type_named classes named name (h.only name (record { place = i; there = e }))

pub first_none : (classes : List ClassInfo) (names : List (List ℕ)) → AreFirstReferences classes names 0 []
first_none classes names = record { count = refl; each = λ i name r e f. absurd cc }

pub first_more : (classes : List ClassInfo) (names : List (List ℕ)) (n : ℕ) (references : List Reference) (name : List ℕ) (r : Reference) → slice_get names n ≡ Some name → Refers classes name r → AreFirstReferences classes names n references → AreFirstReferences classes names (n + 1) (references ++ r ∷ [])
first_more classes names n references name r at refers h = record {
  count = length_push references r ∙ ap (λ m. m + 1) h.count;
  each = λ i other s e f. elim (get_push references r i s f) [
    | inl a ↦ h.each i other s e a
    | inr b ↦ subst (Refers classes other) b.1 (subst (λ (t : List ℕ). Refers classes t r) (same other (sym (ap (slice_get names) (b.0 ∙ h.count) ∙ at) ∙ e)) refers)
  ];
} where
  same : (other : List ℕ) → Some name ≡ Some other → name ≡ other
  same other e = cc

pub first_all : (classes : List ClassInfo) (names : List (List ℕ)) (n : ℕ) (references : List Reference) → n ≡ length names → AreFirstReferences classes names n references → AreReferences classes names references
first_all classes names n references e h = record { count = h.count ∙ e; each = h.each }

pub is_some : (classes : List ClassInfo) (name : List ℕ) (o : Option Reference) → IsNameOfSome classes name → IsReferenceOf classes name o → IsSome o
is_some classes name (Some r) some h = search rules
is_some classes name None some h = absurd (h some.reference some.refers)

pub some_refers : (classes : List ClassInfo) (name : List ℕ) (o : Option Reference) (r : Reference) → o ≡ Some r → IsReferenceOf classes name o → Refers classes name r
some_refers classes name o r e h = subst (IsReferenceOf classes name) e h

-- ---- the greatest number of dimensions

-- of the first n
pub record IsDeepestOf (references : List Reference) (n deepest : ℕ) : Type 0 where
  pub within : (i : ℕ) (r : Reference) → i < n → slice_get references i ≡ Some r → r.dims ≤ deepest
  pub reached : (deepest ≡ 0) ⊎ ((i : ℕ) × (r : Reference) × (slice_get references i ≡ Some r) × (r.dims ≡ deepest))

pub deepest_none : (references : List Reference) → IsDeepestOf references 0 0
deepest_none references = record { within = λ i r l e. absurd (omega (arith, l)); reached = inl refl }

pub deepest_more : (references : List Reference) (n deepest new : ℕ) (r : Reference) → slice_get references n ≡ Some r → IsDeepestOf references n deepest → ((deepest < r.dims) × (new ≡ r.dims)) ⊎ ((r.dims ≤ deepest) × (new ≡ deepest)) → IsDeepestOf references (n + 1) new
deepest_more references n deepest new r at h (inl p) = record {
  within = λ i s l e. elim (cases_lt i n) [ inl lower ↦ omega (arith, h.within i s lower e, p.0, p.1) | inr o ↦ omega (arith, p.1, same s (sym at ∙ ap (slice_get references) (here i l o) ∙ e)) ];
  reached = inr (n, r, at, sym p.1);
} where
  here : (i : ℕ) → i < n + 1 → n ≤ i → n ≡ i
  here i l o = omega (arith, l, o)

  same : (s : Reference) → Some r ≡ Some s → r.dims ≡ s.dims
  same s e = let f : r ≡ s = cc in ap (λ (q : Reference). q.dims) f
deepest_more references n deepest new r at h (inr p) = record {
  within = λ i s l e. elim (cases_lt i n) [ inl lower ↦ omega (arith, h.within i s lower e, p.1) | inr o ↦ omega (arith, p.0, p.1, same s (sym at ∙ ap (slice_get references) (here i l o) ∙ e)) ];
  reached = subst (λ d. (d ≡ 0) ⊎ ((i : ℕ) × (r : Reference) × (slice_get references i ≡ Some r) × (r.dims ≡ d))) (sym p.1) h.reached;
} where
  here : (i : ℕ) → i < n + 1 → n ≤ i → n ≡ i
  here i l o = omega (arith, l, o)

  same : (s : Reference) → Some r ≡ Some s → r.dims ≡ s.dims
  same s e = let f : r ≡ s = cc in ap (λ (q : Reference). q.dims) f

pub deepest_all : (references : List Reference) (n deepest : ℕ) → length references ≤ n → IsDeepestOf references n deepest → IsDeepest references deepest
deepest_all references n deepest all h = record { within = λ i r e. h.within i r (omega (arith, all, slice_get_within references i r e)) e; reached = h.reached }

-- ---- bounds of numbers

pub deepest_small : (classes : List ClassInfo) (names : List (List ℕ)) (references : List Reference) (deepest : ℕ) → AreReferences classes names references → IsDeepest references deepest → deepest ≤ 255
deepest_small classes names references deepest named h = go h.reached where
  go : ((deepest ≡ 0) ⊎ ((i : ℕ) × (r : Reference) × (slice_get references i ≡ Some r) × (r.dims ≡ deepest))) → deepest ≤ 255
  go (inl e) = omega (arith, e)
  go (inr p) =
      let i : ℕ = p.0 in
      let there = slice_get-get_or names i [] (omega (arith, slice_get_within references i p.1 p.2, named.count)) in
      let refers = named.each i (get_or names i []) p.1 there p.2 in
      omega (arith, refers.dims, p.3)

pub name_inside : (classes : List ClassInfo) (c : ℕ) (name : List ℕ) → name_at classes c ≡ Some name → c < length classes
name_inside classes c name e = go (slice_get classes c) refl e where
  go : (o : Option ClassInfo) → slice_get classes c ≡ o → option_map (λ (k : ClassInfo). k.name) o ≡ Some name → c < length classes
  go (Some k) is f = slice_get_within classes c k is
  go None is f = absurd cc

inner_inside : (classes : List ClassInfo) (x : Inner) (text : List ℕ) → inner_text classes x ≡ Some text → inner_number (length classes) x < length classes + 8
inner_inside classes (Class c) text e = let at = inner_name classes c text e in omega (arith, name_inside classes c.0 at.0 at.1)
inner_inside classes (Primitive p) text e = let at = inner_letter p text classes e in omega (arith, slice_get_within letters p at.0 at.1)

pub refers_inside : (classes : List ClassInfo) (name : List ℕ) (r : Reference) → Refers classes name r → inner_number (length classes) r.inner < length classes + 8
refers_inside classes name r h = go r.dims r.inner h.text where
  go : (n : ℕ) (x : Inner) → name_of classes n x ≡ Some name → inner_number (length classes) x < length classes + 8
  go zero (Class c) e = omega (arith, name_inside classes c.0 name e)
  go zero (Primitive p) e = absurd cc
  go (suc n) x e = let at = array_tail classes n x name e in inner_inside classes x at.0 at.1

-- ---- components

pub component_inner : (x r : Reference) → component_of x ≡ Some r → r.inner ≡ x.inner
component_inner x r e = go (x.dims == 0) ((x.dims == 1) && is_primitive x.inner) e where
  go : (a b : Bool) → (if a then None else if b then None else Some (record { dims = x.dims - 1; inner = x.inner })) ≡ Some r → r.inner ≡ x.inner
  go true b e = absurd cc
  go false true e = absurd cc
  go false false e = ap (λ (o : Option Reference). option_map_or (λ (q : Reference). q.inner) o x.inner) (sym e)

pub reference_inside : (classes : List ClassInfo) (names : List (List ℕ)) (references : List Reference) (i : ℕ) (x : Reference) → AreReferences classes names references → slice_get references i ≡ Some x → inner_number (length classes) x.inner < length classes + 8
reference_inside classes names references i x named at =
    let there = slice_get-get_or names i [] (omega (arith, slice_get_within references i x at, named.count)) in
    refers_inside classes (get_or names i []) x (named.each i (get_or names i []) x there at)

-- the component of what is read at a place
pub component_known : (references : List Reference) (i : ℕ) (x r : Reference) (o : Option Reference) → slice_get references i ≡ Some x → slice_get references i ≡ Some r → o ≡ component_of x → component_of r ≡ o
component_known references i x r o e f g = let s : x ≡ r = cc in ap component_of (sym s) ∙ sym g

-- what stands below the dimensions of a name is there
inner_text_there : (classes : List ClassInfo) (x : Inner) (text : List ℕ) → inner_text classes x ≡ Some text → IsThere (length classes) x
inner_text_there classes (Class c) text e = let at = inner_name classes c text e in name_inside classes c.0 at.0 at.1
inner_text_there classes (Primitive p) text e = let at = inner_letter p text classes e in slice_get_within letters p at.0 at.1

refers_there : (classes : List ClassInfo) (name : List ℕ) (r : Reference) → Refers classes name r → IsThere (length classes) r.inner
refers_there classes name r h = go r.dims r.inner h.text where
  go : (n : ℕ) (x : Inner) → name_of classes n x ≡ Some name → IsThere (length classes) x
  go zero (Class c) e = name_inside classes c.0 name e
  go zero (Primitive p) e = absurd cc
  go (suc n) x e = let at = array_tail classes n x name e in inner_text_there classes x at.0 at.1

pub reference_there : (classes : List ClassInfo) (names : List (List ℕ)) (references : List Reference) (i : ℕ) (r : Reference) → AreReferences classes names references → slice_get references i ≡ Some r → IsThere (length classes) r.inner
reference_there classes names references i r named at =
    let there = slice_get-get_or names i [] (omega (arith, slice_get_within references i r at, named.count)) in
    refers_there classes (get_or names i []) r (named.each i (get_or names i []) r there at)

-- The class whose members the objects of a type have.
use Rattle.std.proofs.Common.{◌≡◌, ℕ, zero, suc, ◌<◌, List, [], ◌∷◌, length, Option, Some, None, refl, sym, ap, subst, ◌∙◌, arith, rules, get_or}
use Rattle.std.specs.Prelude.{slice_get, option_map, IsSome}
use Rattle.std.proofs.lemmas.Option.{slice_get_within, slice_get-get_or}
use Rattle.wf_data.specs.declared.class_info.ClassInfo.{ClassInfo}
use Rattle.wf_names.specs.Names.{object_name}
use Rattle.wf_base.specs.declared.ids.ClassId.{ClassId}
use Rattle.wf_classes.specs.World.{IsClosedWorld, Loadable, name_at, class_of, number_in}
use Rattle.wf_classes.specs.World.Loadable.{object, below}
use Rattle.wf_classes.proofs.WaitFacts.{class_is}
use Rattle.wf_subtype.specs.declared.reference.Inner.{Inner}
use Rattle.wf_subtype.specs.declared.reference.Inner.TheVariants.{Class, Primitive}
use Rattle.wf_subtype.specs.declared.reference.Reference.{Reference}
use Rattle.wf_subtype.specs.References.{Refers, name_of, class_of_objects}
use Rattle.wf_subtype.specs.Subtypes.{AreReferences}
use Rattle.wf_subtype.proofs.TypeFacts.{name_inside}

-- a class that is loadable is there
there_is : (classes : List ClassInfo) (name : List ℕ) → IsClosedWorld classes → Loadable classes name → (c : ℕ) × (class_of classes name ≡ Some c) × (c < length classes)
there_is classes name world (object c k at named above kind none) = (c, class_is classes c k world.ascending at, slice_get_within classes c k at)
there_is classes name world (below c k super at above kind higher faces each) = (c, class_is classes c k world.ascending at, slice_get_within classes c k at)

-- what a name is the name of has a class whose members its objects have
pub class_there : (classes : List ClassInfo) (name : List ℕ) (r : Reference) → IsClosedWorld classes → Refers classes name r → (c : ℕ) × (class_of_objects classes r.dims r.inner ≡ Some c) × (c < length classes)
class_there classes name r world h = go r.dims r.inner h.text where
  go : (n : ℕ) (x : Inner) → name_of classes n x ≡ Some name → (c : ℕ) × (class_of_objects classes n x ≡ Some c) × (c < length classes)
  go zero (Class c) e = (c.0, refl, name_inside classes c.0 name e)
  go zero (Primitive p) e = absurd cc
  go (suc n) x e = there_is classes object_name world world.object

-- the same of a type
pub type_there : (classes : List ClassInfo) (names : List (List ℕ)) (references : List Reference) (i : ℕ) (r : Reference) → IsClosedWorld classes → AreReferences classes names references → slice_get references i ≡ Some r → (c : ℕ) × (class_of_objects classes r.dims r.inner ≡ Some c) × (c < length classes)
type_there classes names references i r world named at =
    let there = slice_get-get_or names i [] (omega (arith, slice_get_within references i r at, named.count)) in
    class_there classes (get_or names i []) r world (named.each i (get_or names i []) r there at)

pub is_there : (c : ℕ) (o : Option ClassId) → number_in o ≡ Some c → IsSome o
is_there c (Some d) e = search rules
is_there c None e = absurd cc

pub is_number : (o : Option ClassId) (d : ClassId) → o ≡ Some d → number_in o ≡ Some d.0
is_number o d e = ap number_in e

pub same_class : (c d : ℕ) → Some c ≡ Some d → c ≡ d
same_class c d e = cc

-- an array has the members of java/lang/Object
pub of_array : (classes : List ClassInfo) (n : ℕ) (x : Inner) → 0 < n → class_of_objects classes n x ≡ class_of classes object_name
of_array classes zero x l = absurd (omega (arith, l))
of_array classes (suc n) x l = refl

-- Which classes are initialized before a class, and in which order (JVMS 5.5, step 7).
use Rattle.std.specs.Prelude.{◌≡◌, ℕ, Bool, true, false, not, ◌&&◌, List, [], ◌∷◌, ◌++◌, filter, Some, option_to_list, ◌==◌}
use Rattle.std.specs.List.{list_any}
use Rattle.wf_data.specs.Flags.{is_abstract, is_static}
use Rattle.wf_data.specs.declared.class_info.ClassInfo.{ClassInfo}
use Rattle.wf_data.specs.declared.class_info.MethodInfo.{MethodInfo}
use Rattle.wf_classes.specs.Own.{methods_at}
use Rattle.wf_classes.specs.World.{kind_at, superclass_of, superinterfaces_of}

-- a method that an interface gives to the classes below it
abbrev pub is_default : MethodInfo → Bool
is_default m = not (is_abstract m.flags) && not (is_static m.flags)

-- whether an interface declares one: it is then initialized with the classes below it
abbrev pub has_default : List ClassInfo → ℕ → Bool
has_default classes c = list_any is_default (methods_at classes c)

abbrev pub is_in : List ℕ → ℕ → Bool
is_in xs x = list_any (λ y. y == x) xs

-- The interfaces of a list and all those above them, in order: each once, at its first place, behind its own
-- superinterfaces. What was begun before is passed over, and what is begun behind the list is told.
pub data Enumerates (classes : List ClassInfo) : List ℕ → List ℕ → List ℕ → List ℕ → Type 0 where
  none : (begun : List ℕ) → Enumerates classes [] begun [] begun
  again : (i : ℕ) (is begun order after : List ℕ) → is_in begun i ≡ true → Enumerates classes is begun order after → Enumerates classes (i ∷ is) begun order after
  first : (i : ℕ) (is begun above order middle after : List ℕ) → is_in begun i ≡ false → Enumerates classes (superinterfaces_of classes i) (i ∷ begun) above middle → Enumerates classes is middle order after → Enumerates classes (i ∷ is) begun (above ++ i ∷ order) after

-- What is initialized before a class: nothing before an interface; before another class its superclass, and then those of its
-- superinterfaces that declare a method neither abstract nor static.
pub data IsInitOrder (classes : List ClassInfo) (c : ℕ) : List ℕ → Type 0 where
  interface : kind_at classes c ≡ Some true → IsInitOrder classes c []
  class : (order after : List ℕ) → kind_at classes c ≡ Some false → Enumerates classes (superinterfaces_of classes c) [] order after → IsInitOrder classes c (option_to_list (superclass_of classes c) ++ filter (has_default classes) order)

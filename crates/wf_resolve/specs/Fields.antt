-- The field that a name means in a class (JVMS 5.4.3.2).
use Rattle.std.specs.Prelude.{◌≡◌, ℕ, ◌<◌, List, ◌++◌, Option, Some, None, option_to_list, slice_get}
use Rattle.wf_data.specs.declared.class_info.ClassInfo.{ClassInfo}
use Rattle.wf_grammar.specs.ClassFile.{Key}
use Rattle.wf_classes.specs.Members.{field_number}
use Rattle.wf_classes.specs.World.{superclass_of, superinterfaces_of}

-- where a field is looked for behind class c itself, in this order: in the interfaces of its list, and in its superclass
abbrev pub places_behind : List ClassInfo → ℕ → List ℕ
places_behind classes c = superinterfaces_of classes c ++ option_to_list (superclass_of classes c)

-- The class that declares the field of this name and descriptor that a class has: the class itself, else the one that
-- the first place behind it has that has any.
pub data FieldOf (classes : List ClassInfo) (key : Key) : ℕ → Option ℕ → Type 0 where
  own : (c f : ℕ) → field_number classes c key.0 key.1 ≡ Some f → FieldOf classes key c (Some c)
  behind : (c i s d : ℕ) → field_number classes c key.0 key.1 ≡ None → slice_get (places_behind classes c) i ≡ Some s → ((j t : ℕ) → j < i → slice_get (places_behind classes c) j ≡ Some t → FieldOf classes key t None) → FieldOf classes key s (Some d) → FieldOf classes key c (Some d)
  nowhere : (c : ℕ) → field_number classes c key.0 key.1 ≡ None → ((j t : ℕ) → slice_get (places_behind classes c) j ≡ Some t → FieldOf classes key t None) → FieldOf classes key c None

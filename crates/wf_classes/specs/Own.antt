-- What a class itself declares (JVMS 4.5, 4.6).
use Rattle.std.specs.Prelude.{◌≡◌, ℕ, Bool, List, [], Option, Some, option_map, slice_get}
use Rattle.std.specs.List.{find}
use Rattle.std.specs.Option.{option_map_or}
use Rattle.std.specs.Ordering.{is_eq}
use Rattle.wf_data.specs.declared.class_info.ClassInfo.{ClassInfo}
use Rattle.wf_data.specs.declared.class_info.FieldInfo.{FieldInfo}
use Rattle.wf_data.specs.declared.class_info.MethodInfo.{MethodInfo}
use Rattle.wf_grammar.specs.ClassFile.{Key}
use Rattle.wf_classes.specs.Members.{key_cmp, method_key, field_key, method_number, field_number}

abbrev pub methods_at : List ClassInfo → ℕ → List MethodInfo
methods_at classes c = option_map_or (λ (k : ClassInfo). k.methods) (slice_get classes c) []

abbrev pub fields_at : List ClassInfo → ℕ → List FieldInfo
fields_at classes c = option_map_or (λ (k : ClassInfo). k.fields) (slice_get classes c) []

abbrev pub is_method_of : Key → MethodInfo → Bool
is_method_of key m = is_eq (key_cmp (method_key m) key)

abbrev pub is_field_of : Key → FieldInfo → Bool
is_field_of key f = is_eq (key_cmp (field_key f) key)

-- the flags of the method of a name and a descriptor that class c declares
abbrev pub method_flags : List ClassInfo → Key → ℕ → Option ℕ
method_flags classes key c = option_map (λ (m : MethodInfo). m.flags) (find (is_method_of key) (methods_at classes c))

abbrev pub field_flags : List ClassInfo → Key → ℕ → Option ℕ
field_flags classes key c = option_map (λ (f : FieldInfo). f.flags) (find (is_field_of key) (fields_at classes c))

-- method n is the one that class c declares under its name and its descriptor
pub record IsMethod (classes : List ClassInfo) (n c : ℕ) (m : MethodInfo) : Type 0 where
  pub there : find (is_method_of (method_key m)) (methods_at classes c) ≡ Some m
  pub number : method_number classes c m.name m.desc ≡ Some n

pub record IsField (classes : List ClassInfo) (n c : ℕ) (f : FieldInfo) : Type 0 where
  pub there : find (is_field_of (field_key f)) (fields_at classes c) ≡ Some f
  pub number : field_number classes c f.name f.desc ≡ Some n

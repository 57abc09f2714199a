-- The packages of classes (JVMS 5.3, 4.2.1).
use Rattle.std.specs.Prelude.{ℕ, ◌+◌, Bool, List, [], ◌∷◌, take, ◌==◌, if◌then◌else◌}
use Rattle.std.specs.Str.{bytes_eq}
use Rattle.std.specs.Option.{option_map_or}
use Rattle.wf_data.specs.declared.class_info.ClassInfo.{ClassInfo}
use Rattle.wf_classes.specs.World.{name_at}

-- where the last `/` stands, or the place that is given where none does
abbrev pub last_slash : ℕ → ℕ → List ℕ → ℕ
last_slash at last [] = last
last_slash at last (b ∷ bytes) = last_slash (at + 1) (if b == 47 then at else last) bytes

-- the package of a class of this name: what stands in front of the last `/`
abbrev pub package_of : List ℕ → List ℕ
package_of name = take (last_slash 0 0 name) name

-- the name of a class that is there
abbrev pub name_of : List ClassInfo → ℕ → List ℕ
name_of classes c = option_map_or (λ name. name) (name_at classes c) []

-- whether two classes are of one package
abbrev pub same_package : List ClassInfo → ℕ → ℕ → Bool
same_package classes c d = bytes_eq (package_of (name_of classes c)) (package_of (name_of classes d))

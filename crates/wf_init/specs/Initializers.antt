-- The initializer of a class (JVMS 2.9).
use Rattle.std.specs.Prelude.{ℕ, List, Option, None, codes, option_and_then, if◌then◌else◌}
use Rattle.wf_data.specs.Flags.{is_static}
use Rattle.wf_data.specs.declared.class_info.ClassInfo.{ClassInfo}
use Rattle.wf_names.specs.Names.{initializer_name}
use Rattle.wf_classes.specs.Members.{method_number}
use Rattle.wf_classes.specs.Own.{method_flags}

abbrev pub initializer_desc : List ℕ
initializer_desc = codes "()V"

-- A class's own static method `<clinit> ()V`. One that isn't static is none, whatever the version of the class file (own rule).
abbrev pub initializer_of : List ClassInfo → ℕ → Option ℕ
initializer_of classes c = option_and_then (λ flags. if is_static flags then method_number classes c initializer_name initializer_desc else None) (method_flags classes (initializer_name, initializer_desc) c)

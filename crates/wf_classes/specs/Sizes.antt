-- How large a class can be that so many bytes spell (this project's own).
use Rattle.std.specs.Prelude.{◌≡◌, ℕ, ◌≤◌, length, Some, slice_get}
use Rattle.wf_data.specs.declared.class_info.ClassInfo.{ClassInfo}
use Rattle.wf_data.specs.declared.class_info.CodeInfo.{CodeInfo}
use Rattle.wf_data.specs.declared.class_info.MethodInfo.{MethodInfo}
use Rattle.wf_classes.specs.World.{code_bytes, text_bytes}

-- no more members than bytes, and no more bytes of codes and texts; each code is of at most 65535 bytes
pub record IsWithinBytes (k : ClassInfo) (size : ℕ) : Type 0 where
  pub methods : length k.methods ≤ size
  pub fields : length k.fields ≤ size
  pub code : code_bytes k ≤ size
  pub text : text_bytes k ≤ size
  pub codes : (i : ℕ) (m : MethodInfo) (code : CodeInfo) → slice_get k.methods i ≡ Some m → m.code ≡ Some code → length code.code ≤ 65535

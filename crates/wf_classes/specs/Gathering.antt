-- Classes that are read one after another, before they are closed (this project's own).
use Rattle.std.specs.Prelude.{◌≡◌, ℕ, ◌+◌, ◌≤◌, List, length, sum_by, Some, slice_get}
use Rattle.wf_data.specs.declared.class_info.ClassInfo.{ClassInfo}
use Rattle.wf_data.specs.declared.class_info.CodeInfo.{CodeInfo}
use Rattle.wf_data.specs.declared.class_info.MethodInfo.{MethodInfo}
use Rattle.wf_classes.specs.World.{HaveNamesOfTheirOwn, HaveSpellings, code_bytes, text_bytes}

-- the classes, and how many bytes further files may have
pub record Gathering : Type 0 where
  pub classes : List ClassInfo
  pub left : ℕ

-- no class has this name
pub record IsNew (classes : List ClassInfo) (name : List ℕ) : Type 0 where
  pub none : (i : ℕ) (k : ClassInfo) → slice_get classes i ≡ Some k → k.name ≡ name → ⊥

-- files with no more bytes than were left out of a run's limit spell them, each another name
pub record AreGathered (classes : List ClassInfo) (left : ℕ) : Type 0 where
  pub apart : HaveNamesOfTheirOwn classes
  pub spelled : HaveSpellings classes
  pub count : length classes ≤ 65536
  pub methods : sum_by (λ (k : ClassInfo). length k.methods) classes + left ≤ 536870912
  pub fields : sum_by (λ (k : ClassInfo). length k.fields) classes + left ≤ 536870912
  pub code : sum_by code_bytes classes + left ≤ 536870912
  pub text : sum_by text_bytes classes + left ≤ 536870912
  pub codes : (c i : ℕ) (k : ClassInfo) (m : MethodInfo) (code : CodeInfo) → slice_get classes c ≡ Some k → slice_get k.methods i ≡ Some m → m.code ≡ Some code → length code.code ≤ 65535

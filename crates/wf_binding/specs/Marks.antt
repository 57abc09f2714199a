-- The methods that had a block (this project's own).
use Rattle.std.specs.Prelude.{◌≡◌, ℕ, ◌<◌, Bool, false, List, length, slice_index_or}
use Rattle.wf_classes.specs.Members.{method_keys, member_count}
use Rattle.wf_data.specs.declared.class_info.ClassInfo.{ClassInfo}
use Rattle.wf_inputs.specs.declared.summary.Block.{Block}
use Rattle.wf_binding.specs.Validity.{is_second}

-- each method that one of these blocks is of is marked, and no other
pub record AreMarked (classes : List ClassInfo) (earlier : List Block) (marks : List Bool) : Type 0 where
  pub count : length marks ≡ member_count (method_keys classes)
  pub each : (m : ℕ) → m < length marks → slice_index_or marks m false ≡ is_second classes earlier m

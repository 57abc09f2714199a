-- Programs of the first form.
use Rattle.std.specs.Prelude.{◌≡◌, true, List, Contains}
use Rattle.wf_data.specs.declared.class_info.ClassInfo.{ClassInfo}
use Rattle.wf_names.specs.declared.member.MemberName.{MemberName}
use Rattle.wf_first.specs.FirstForm.{is_first_form}
use Rattle.wf_sys.specs.Program.{DeclaresStatic}
use Rattle.wf_first.specs.Calls.{calls_are_known}
use Rattle.wf_first.specs.Roots.{has_object}

-- each class is of the form
pub record AllOfForm (classes : List ClassInfo) : Type 0 where
  pub each_class : (class : ClassInfo) → Contains classes class → is_first_form class ≡ true

-- Each class is of the form, java/lang/Object is there, the root is a static method, and each call names one.
pub record IsOfForm (classes : List ClassInfo) (root : MemberName) : Type 0 where
  pub form : (class : ClassInfo) → Contains classes class → is_first_form class ≡ true
  pub object : has_object classes ≡ true
  pub declared : DeclaresStatic classes root
  pub calls : calls_are_known classes ≡ true

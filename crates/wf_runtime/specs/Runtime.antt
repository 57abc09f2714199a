-- The look-ups of the machine, each told by the definition that it is of (JVMS; own rules where that says so).
use Rattle.std.specs.Prelude.{◌≡◌, ℕ, ◌<◌, length, map, codes, List, Some, option_map}
use Rattle.std.specs.Bool.{Decides}
use Rattle.wf_base.specs.declared.ids.ClassId.{ClassId}
use Rattle.wf_base.specs.declared.ids.FieldId.{FieldId}
use Rattle.wf_base.specs.declared.ids.MethodId.{MethodId}
use Rattle.wf_base.specs.declared.ids.TargetId.{TargetId}
use Rattle.wf_base.specs.declared.ids.TypeId.{TypeId}
use Rattle.wf_data.specs.declared.class_info.FieldInfo.{FieldInfo}
use Rattle.wf_data.specs.declared.class_info.MethodInfo.{MethodInfo}
use Rattle.wf_data.specs.Flags.{is_static}
use Rattle.wf_operation.specs.declared.sort.Element.{Element}
use Rattle.wf_classes.specs.Own.{IsField, IsMethod}
use Rattle.wf_classes.specs.World.{number}
use Rattle.wf_subtype.specs.Subtypes.{IsSubtype}
use Rattle.wf_actions.specs.Named.{type_named}
use Rattle.wf_rows.specs.Errors.{class_name}
use Rattle.wf_rows.specs.declared.throwable.Throwable.{Throwable}
use Rattle.wf_init.specs.Initializers.{initializer_of}
use Rattle.wf_init.specs.Order.{IsInitOrder}
use Rattle.wf_machine.specs.World.{World}
use Rattle.wf_runtime.specs.Bodies.{Body, IsExecuted, IsCode, entry_of, AreHandlersOf}
use Rattle.wf_runtime.specs.Calls.{IsSelecting, IsSelectedAt}
use Rattle.wf_runtime.specs.Statics.{AreStaticFields}
use Rattle.wf_runtime.specs.Summaries.{Run, summary_of, is_summarised}
use Rattle.wf_runtime.specs.Types.{is_array, element_of_type, MayHold, IsFirstValue, first_element, IsUnderNamed}

abbrev pub method_number : MethodId → ℕ
method_number m = m.0

abbrev pub error_name : List ℕ
error_name = codes "java/lang/Error"

-- What the machine looks up as it runs these classes with this summary.
pub record IsWorldOf (p : Run) (w : World) : Type 0 where
  -- methods (JVMS 2.6, 2.10, 4.7.3)
  pub code : (m : MethodId) (pc : ℕ) → IsCode p m pc (w.code m pc)
  pub entry : (m : MethodId) (c : ℕ) (info : MethodInfo) → IsMethod p.types.classes m.0 c info → w.entry m ≡ entry_of (is_summarised p m) info
  pub handlers : (m : MethodId) (b : Body) (pc : ℕ) → IsExecuted p m b → AreHandlersOf p b pc (w.handlers m pc)
  pub selects : (m : MethodId) (pc : ℕ) (t : TypeId) → 0 < t.0 → IsSelecting p m pc → IsSelectedAt p m pc t (w.selects m pc t)
  pub summary : (m : MethodId) → w.summary m ≡ summary_of p m
  -- types (JVMS 2.4, 6.5 instanceof and aastore)
  pub is_under : (t : TypeId) (u : TargetId) → Decides (w.is_under t u) (IsSubtype p.types t.0 u.0)
  pub is_array : (t : TypeId) → w.is_array t ≡ is_array p.types t
  pub has_elements : (t : TypeId) (e : Element) → Decides (w.has_elements t e) (element_of_type p.types t ≡ Some e)
  pub may_hold : (array t : TypeId) → Decides (w.may_hold array t) (MayHold p.types array t)
  pub first_value : (t : TypeId) (f : FieldId) → IsFirstValue p.types t f (w.first_value t f)
  pub first_element : (t : TypeId) → w.first_element t ≡ first_element p.types t
  pub is_static : (f : FieldId) (c : ℕ) (info : FieldInfo) → IsField p.types.classes f.0 c info → w.is_static f ≡ is_static info.flags
  -- classes (JVMS 5.5)
  pub initializer : (c : ClassId) → option_map method_number (w.initializer c) ≡ initializer_of p.types.classes c.0
  pub static_fields : (c : ClassId) → c.0 < length p.types.classes → AreStaticFields p c (w.static_fields c)
  pub before : (c : ClassId) → c.0 < length p.types.classes → IsInitOrder p.types.classes c.0 (map number (w.before c))
  -- what is thrown
  pub is_error : (t : TypeId) → Decides (w.is_error t) (IsUnderNamed p.types t error_name)
  pub thrown : (e : Throwable) → w.thrown e ≡ type_named p.types (class_name e)

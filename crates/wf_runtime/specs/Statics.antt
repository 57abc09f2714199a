-- What the machine looks up of classes (JVMS 5.5).
use Rattle.std.specs.Prelude.{◌≡◌, ℕ, ℤ, true, false, List, [], ◌∷◌, length, Some, None, slice_get}
use Rattle.wf_base.specs.declared.ids.ClassId.{ClassId}
use Rattle.wf_base.specs.declared.ids.FieldId.{FieldId}
use Rattle.wf_base.specs.declared.ids.TypeId.{TypeId}
use Rattle.wf_data.specs.declared.class_info.ClassInfo.{ClassInfo}
use Rattle.wf_data.specs.declared.class_info.FieldInfo.{FieldInfo}
use Rattle.wf_data.specs.declared.class_info.PoolEntry.{PoolEntry}
use Rattle.wf_data.specs.declared.class_info.PoolEntry.TheVariants as entry
use Rattle.wf_data.specs.Flags.{is_static}
use Rattle.wf_classes.specs.Members.{field_number}
use Rattle.wf_resolve.specs.Instructions.{text_links}
use Rattle.wf_linking.specs.Linking.{IsPlainClassOf, string_class}
use Rattle.wf_actions.specs.Literals.{AreLiteralFields}
use Rattle.wf_actions.specs.Named.{type_of_class}
use Rattle.wf_rows.specs.declared.action.LiteralField.{LiteralField}
use Rattle.wf_machine.specs.Values.{Int, Long, Null, zero_of}
use Rattle.wf_machine.specs.World.{Start, Holds, HoldsLiteral, StaticField}
use Rattle.wf_runtime.specs.Summaries.{Run}
use Rattle.wf_runtime.specs.Types.{kind_of_field}

-- What a static field holds as its class gets in progress (JVMS 4.7.2, 5.5 step 6): its constant, or zero. A string is a literal
-- of java/lang/String, or null where that can have no objects (own rule).
pub data StartsAs (p : Run) (pool : List PoolEntry) (info : FieldInfo) : Start → Type 0 where
  zero : info.constant ≡ None → StartsAs p pool info (Holds (zero_of (kind_of_field info)))
  int : (place : ℕ) (n : ℤ) → info.constant ≡ Some place → slice_get pool place ≡ Some (entry.Integer n) → StartsAs p pool info (Holds (Int n))
  long : (place : ℕ) (n : ℤ) → info.constant ≡ Some place → slice_get pool place ≡ Some (entry.Long n) → StartsAs p pool info (Holds (Long n))
  float : (place bits : ℕ) → info.constant ≡ Some place → slice_get pool place ≡ Some (entry.Float bits) → StartsAs p pool info (Holds (zero_of (kind_of_field info)))
  double : (place bits : ℕ) → info.constant ≡ Some place → slice_get pool place ≡ Some (entry.Double bits) → StartsAs p pool info (Holds (zero_of (kind_of_field info)))
  string : (place text : ℕ) (c : ClassId) (t : TypeId) (fields : List LiteralField) → info.constant ≡ Some place → slice_get pool place ≡ Some (entry.Str text) → IsPlainClassOf p.types.classes string_class c → type_of_class p.types c ≡ Some t → AreLiteralFields p.types.classes c.0 p.summary.literals (length p.summary.literals) fields → StartsAs p pool info (HoldsLiteral (record { class = t; fields = fields }))
  no_string : (place text : ℕ) → info.constant ≡ Some place → slice_get pool place ≡ Some (entry.Str text) → text_links p.types.classes ≡ false → StartsAs p pool info (Holds Null)

-- the static fields among some that class c declares, in their order
pub data AreStatics (p : Run) (c : ℕ) (pool : List PoolEntry) : List FieldInfo → List StaticField → Type 0 where
  none : AreStatics p c pool [] []
  instance : (info : FieldInfo) (infos : List FieldInfo) (fields : List StaticField) → is_static info.flags ≡ false → AreStatics p c pool infos fields → AreStatics p c pool (info ∷ infos) fields
  static : (info : FieldInfo) (infos : List FieldInfo) (f : FieldId) (start : Start) (fields : List StaticField) → is_static info.flags ≡ true → field_number p.types.classes c info.name info.desc ≡ Some f.0 → StartsAs p pool info start → AreStatics p c pool infos fields → AreStatics p c pool (info ∷ infos) (record { field = f; start = start } ∷ fields)

-- those of a class, in the order of its class file
pub record AreStaticFields (p : Run) (c : ClassId) (fields : List StaticField) : Type 0 where
  pub class : ClassInfo
  pub there : slice_get p.types.classes c.0 ≡ Some class
  pub are : AreStatics p c.0 class.pool class.fields fields

-- What native and replaced methods do, by the summary (this project's own). They do any finite number of their effects in any
-- order, and then return one of their values, or throw an object that exists. One without a returned value doesn't return.
use Rattle.std.specs.Prelude.{◌≡◌, ℕ, true, false, List, slice_get, slice_set, Option, Some, None}
use Rattle.wf_base.specs.declared.ids.FieldId.{FieldId}
use Rattle.wf_base.specs.declared.ids.TypeId.{TypeId}
use Rattle.wf_operation.specs.declared.sort.Element.TheVariants as element
use Rattle.wf_rows.specs.declared.action.StatedValue.{StatedValue}
use Rattle.wf_rows.specs.declared.summaries.SummaryEffect.{SummaryEffect}
use Rattle.wf_rows.specs.declared.summaries.SummaryEffect.TheVariants as effect
use Rattle.wf_rows.specs.declared.summaries.SummaryValue.{SummaryValue}
use Rattle.wf_rows.specs.declared.summaries.SummaryValue.TheVariants.{Stated, Argument}
use Rattle.wf_machine.specs.Values.{Object, Value, Ref}
use Rattle.wf_machine.specs.Memory.{Memory, with_field, with_elements, with_static, with_written}
use Rattle.wf_machine.specs.World.{World}
use Rattle.wf_machine.specs.Stated.{IsAmong, Makes, IsStated}
use Rattle.wf_machine.specs.Arrays.{takes_reference}

-- a value that such a method returns or writes
pub data IsGiven (w : World) (arguments : List Value) (memory : Memory) : SummaryValue → Value → Memory → Type 0 where
  stated : (s : StatedValue) (v : Value) (after : Memory) → IsStated w memory s v after → IsGiven w arguments memory (Stated s) v after
  argument : (i : ℕ) (v : Value) → slice_get arguments i ≡ Some v → IsGiven w arguments memory (Argument i) v memory

-- a value into a static field, or into the field of an object that exists and has it
pub data Writes (w : World) (memory : Memory) (f : FieldId) (v : Value) : Memory → Type 0 where
  static : w.is_static f ≡ true → Writes w memory f v (with_static memory f v)
  instance : (o : Object) (old : Value) → w.is_static f ≡ false → IsAmong memory.objects o → memory.fields o f ≡ Some old → Writes w memory f v (with_field memory o f v)

-- an effect but a return
pub data Acts (w : World) (arguments : List Value) (memory : Memory) : SummaryEffect → Memory → Type 0 where
  makes : (t : TypeId) (o : Object) (after : Memory) → Makes w memory t o after → Acts w arguments memory (effect.Makes t) after
  writes : (f : FieldId) (s : SummaryValue) (v : Value) (given after : Memory) → IsGiven w arguments memory s v given → Writes w given f v after → Acts w arguments memory (effect.Writes f s) (with_written after f)
  -- an element of one array to any place of another that may hold it
  copies : (line i j n p : ℕ) (source into : Object) (v : Value) → slice_get arguments i ≡ Some (Ref source) → slice_get arguments j ≡ Some (Ref into) → w.has_elements source.type element.Ref ≡ true → w.has_elements into.type element.Ref ≡ true → slice_get (memory.elements source) n ≡ Some v → takes_reference w into.type v ≡ true → Acts w arguments memory (effect.Copies line i j) (with_elements memory into (slice_set (memory.elements into) p v))

-- a returned value, or none
pub data Answers (w : World) (arguments : List Value) (memory : Memory) : SummaryEffect → Option Value → Memory → Type 0 where
  void : Answers w arguments memory effect.ReturnsVoid None memory
  value : (s : SummaryValue) (v : Value) (after : Memory) → IsGiven w arguments memory s v after → Answers w arguments memory (effect.Returns s) (Some v) after

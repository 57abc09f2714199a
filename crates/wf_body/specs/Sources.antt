-- A method that is read, and what it is refused for where it can't be (this project's own).
use Rattle.std.specs.Prelude.{◌≡◌, ℕ, ◌+◌, ◌<◌, ◌^◌, Bool, List, Some, slice_get}
use Rattle.std.specs.List.{count_by}
use Rattle.wf_base.specs.declared.ids.MethodId.{MethodId}
use Rattle.wf_data.specs.declared.class_info.ClassInfo.{ClassInfo}
use Rattle.wf_data.specs.declared.class_info.CodeInfo.{CodeInfo}
use Rattle.wf_data.specs.declared.class_info.MethodInfo.{MethodInfo}
use Rattle.wf_data.specs.declared.class_info.PoolEntry.{PoolEntry}
use Rattle.wf_data.specs.declared.instr.Placed.{Placed}
use Rattle.wf_data.specs.Flags.{is_static}
use Rattle.wf_descriptor.specs.declared.descriptor.MethodDesc.{MethodDesc}
use Rattle.wf_descriptor.specs.Descriptors.{SpellsMethod}
use Rattle.wf_opcode.specs.Instructions.{Instructions}
use Rattle.wf_blocks.specs.Methods.{body_of, HasShape}
use Rattle.wf_classes.specs.Own.{IsMethod}
use Rattle.wf_links.specs.Sites.{is_site}
use Rattle.wf_refusals.specs.declared.body.BodyFault.{BodyFault}
use Rattle.wf_refusals.specs.declared.body.BodyFault.TheVariants.{Refused, NoMemory}
use Rattle.wf_refusals.specs.Refusals.{IsRefused}

-- what of a method its body is made from
pub record MethodSource : Type 0 where
  pub id : MethodId
  -- the constant pool of its class
  pub pool : List PoolEntry
  pub is_static : Bool
  pub desc : MethodDesc
  pub code : CodeInfo
  -- the number of its first call site
  pub first_site : ℕ

-- these are of a method of the classes
pub record IsSource (classes : List ClassInfo) (s : MethodSource) : Type 0 where
  pub number : ℕ
  pub class : ClassInfo
  pub there : slice_get classes number ≡ Some class
  pub info : MethodInfo
  pub is : IsMethod classes s.id.0 number info
  pub pool : s.pool ≡ class.pool
  pub static : s.is_static ≡ is_static info.flags
  pub has_code : info.code ≡ Some s.code
  pub described : SpellsMethod 255 info.desc s.desc

abbrev pub is_site_at : Placed → Bool
is_site_at at = is_site at.instr

-- its call sites have numbers of four bytes
abbrev pub HasSites : MethodSource → Type 0
HasSites s = (placed : List Placed) → Instructions 0 s.code.code placed → s.first_site + count_by is_site_at placed < 2 ^ 32

-- its instructions don't fit together
abbrev pub Misfits : MethodSource → List Placed → Type 0
Misfits s placed = HasShape (body_of s.desc s.is_static s.pool s.code placed)

-- why it has no body that the analysis reads
abbrev pub IsFaultOf : MethodSource → BodyFault → Type 0
IsFaultOf s (Refused r) = IsRefused s.pool s.code.code (Misfits s) r
IsFaultOf s NoMemory = Unit {0}

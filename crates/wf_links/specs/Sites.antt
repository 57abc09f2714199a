-- Call sites, by their numbers (this project's own, after SkipFlow, CGO 2025).
use Rattle.std.specs.Prelude.{◌≡◌, ℕ, ◌+◌, Bool, true, false, List, [], ◌∷◌, ◌++◌, length, Option, Some, None, if◌then◌else◌}
use Rattle.std.specs.List.{flat_map}
use Rattle.wf_base.specs.declared.ids.MethodId.{MethodId}
use Rattle.wf_data.specs.declared.class_info.ClassInfo.{ClassInfo}
use Rattle.wf_data.specs.declared.class_info.CodeInfo.{CodeInfo}
use Rattle.wf_data.specs.declared.class_info.MethodInfo.{MethodInfo}
use Rattle.wf_data.specs.declared.instr.Instr.{Instr}
use Rattle.wf_data.specs.declared.instr.Placed.{Placed}
use Rattle.wf_opcode.specs.Instructions.{Instructions, IsBadAt}
use Rattle.wf_operation.specs.declared.sort.Call.{Call}
use Rattle.wf_operation.specs.declared.sort.Call.TheVariants.{Virtual, Special, Static, Interface}
use Rattle.wf_operation.specs.declared.sort.Sort.{Sort}
use Rattle.wf_operation.specs.declared.sort.Sort.TheVariants as sort
use Rattle.wf_operation.specs.Sorts.{sort_of}
use Rattle.wf_classes.specs.Own.{IsMethod}

-- the receiver says which method runs: invokevirtual, invokespecial, invokeinterface (JVMS 6.5)
abbrev pub has_receiver : Call → Bool
has_receiver Virtual = true
has_receiver Special = true
has_receiver Interface = true
has_receiver Static = false

abbrev pub is_selecting : Option Sort → Bool
is_selecting (Some (sort.Invoke call)) = has_receiver call
is_selecting other = false

-- whether an instruction is a call site
abbrev pub is_site : Instr → Bool
is_site i = is_selecting (sort_of i.op)

-- a call site: an instruction in its method
pub record Site : Type 0 where
  pub method : MethodId
  pub at : Placed

abbrev pub site_at : MethodId → Placed → List Site
site_at m p = if is_site p.instr then record { method = m; at = p } ∷ [] else []

-- the sites of a method, in the order of their places
abbrev pub sites_in : MethodId → List Placed → List Site
sites_in m code = flat_map (site_at m) code

-- The instructions of a method: none where it has no code, or one that isn't instructions as a whole.
pub data AreInstructionsOf (method : MethodInfo) : List Placed → Type 0 where
  read : (code : CodeInfo) (placed : List Placed) → method.code ≡ Some code → Instructions 0 code.code placed → AreInstructionsOf method placed
  no_code : method.code ≡ None → AreInstructionsOf method []
  unread : (code : CodeInfo) (pc : ℕ) → method.code ≡ Some code → IsBadAt code.code pc → AreInstructionsOf method []

-- the same of a method by its number
pub record IsCodeOf (classes : List ClassInfo) (m : ℕ) (placed : List Placed) : Type 0 where
  pub class : ℕ
  pub info : MethodInfo
  pub is : IsMethod classes m class info
  pub code : AreInstructionsOf info placed

-- The sites of the first methods: those of each method stand behind those of the methods before it. Of each method the
-- number of its first site stands beside them.
pub data AreSites (classes : List ClassInfo) : ℕ → List ℕ → List Site → Type 0 where
  none : AreSites classes 0 [] []
  method : (m : ℕ) (firsts : List ℕ) (sites : List Site) (code : List Placed) → AreSites classes m firsts sites → IsCodeOf classes m code
      → AreSites classes (m + 1) (firsts ++ length sites ∷ []) (sites ++ sites_in (record { 0 = m }) code)

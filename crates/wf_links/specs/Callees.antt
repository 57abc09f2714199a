-- What a call site calls: by what its instruction resolves to, which class or array its receivers are under, and how the
-- method that runs is found (JVMS 6.5: invokevirtual, invokespecial, invokeinterface).
use Rattle.std.specs.Prelude.{◌≡◌, ℕ, Bool, true, false, List, [], Option, Some, None, Ok, Err, slice_get}
use Rattle.std.specs.Option.{option_map_or}
use Rattle.wf_base.specs.declared.ids.MethodId.{MethodId}
use Rattle.wf_data.specs.declared.class_info.ClassInfo.{ClassInfo}
use Rattle.wf_data.specs.declared.class_info.MethodInfo.{MethodInfo}
use Rattle.wf_data.specs.declared.class_info.PoolEntry.{PoolEntry}
use Rattle.wf_names.specs.declared.member.MemberName.{MemberName}
use Rattle.wf_names.specs.declared.world.LinkError.{LinkError}
use Rattle.wf_classes.specs.Own.{IsMethod}
use Rattle.wf_resolve.specs.declared.instructions.Calling.{Calling}
use Rattle.wf_resolve.specs.declared.instructions.Calling.TheVariants as calling
use Rattle.wf_subtype.specs.Subtypes.{AllTypes, IsTargetFound}
use Rattle.wf_select.specs.declared.outcome.Selected.{Selected}
use Rattle.wf_select.specs.declared.outcome.Selected.TheVariants.{Method, AbstractMethod, Incompatible}
use Rattle.wf_select.specs.Selection.{Special}
use Rattle.wf_linking.specs.declared.linked.Linked.TheVariants as linked
use Rattle.wf_linking.specs.declared.linked.LinkedMethod.{LinkedMethod}
use Rattle.wf_linking.specs.Linking.{Links}
use Rattle.wf_linking.specs.Symbolic.{Symbolic, MethodName, symbolic_of}
use Rattle.wf_links.specs.declared.callee.Callee.{Callee}
use Rattle.wf_links.specs.declared.callee.Selection.{Selection}
use Rattle.wf_links.specs.declared.callee.Selection.TheVariants as by
use Rattle.wf_links.specs.Sites.{Site}

-- the constant pool of class c
abbrev pub pool_at : List ClassInfo → ℕ → List PoolEntry
pool_at classes c = option_map_or (λ (k : ClassInfo). k.pool) (slice_get classes c) []

-- the method that runs, if one does
abbrev pub selected_method : Selected → Option MethodId
selected_method (Method m) = Some m
selected_method AbstractMethod = None
selected_method Incompatible = None

-- the tag of the entry tells invokeinterface from invokevirtual
abbrev pub by_object : Bool → Selection
by_object false = by.Virtual
by_object true = by.Interface

abbrev pub called : ℕ → MethodId → Selection → Callee
called u m how = record { receivers = u; method = m.0; by = how }

abbrev pub known : ℕ → Option MethodId → Option Callee
known u (Some m) = Some (called u m by.Known)
known u None = None

-- invokespecial in a method of class `current`: one method runs, whatever the receiver
pub record IsSpecialCallee (types : AllTypes) (current u : ℕ) (l : LinkedMethod) (callee : Option Callee) : Type 0 where
  pub selected : Selected
  pub runs : Special types.classes current l.named.0 l.method.0 selected
  pub is : callee ≡ known u (selected_method selected)

-- what is called of the receivers under target u, where a method is resolved
abbrev pub IsCalleeOf : AllTypes → ℕ → Calling → Bool → ℕ → LinkedMethod → Option Callee → Type 0
IsCalleeOf types current calling.Object of_interface u l callee = callee ≡ Some (called u l.method (by_object of_interface))
IsCalleeOf types current calling.Special of_interface u l callee = IsSpecialCallee types current u l callee
IsCalleeOf types current calling.Static of_interface u l callee = callee ≡ None

-- What is called by the name of a method: nothing where that isn't resolved, or its class or array were no target.
pub data IsCalleeNamed (types : AllTypes) (current : ℕ) (how : Calling) (of_interface : Bool) (member : MemberName) : Option Callee → Type 0 where
  unresolved : (e : LinkError) → Links types.classes (MethodName how of_interface member) (Err e) → IsCalleeNamed types current how of_interface member None
  resolved : (l : LinkedMethod) (u : ℕ) (callee : Option Callee) → Links types.classes (MethodName how of_interface member) (Ok (linked.Method l)) → IsTargetFound types member.class (Some u)
      → IsCalleeOf types current how of_interface u l callee → IsCalleeNamed types current how of_interface member callee
  no_target : (l : LinkedMethod) → Links types.classes (MethodName how of_interface member) (Ok (linked.Method l)) → IsTargetFound types member.class None → IsCalleeNamed types current how of_interface member None

-- nothing where it isn't the name of a method
abbrev pub IsCalleeBy : AllTypes → ℕ → Option Symbolic → Option Callee → Type 0
IsCalleeBy types current (Some (MethodName how of_interface member)) callee = IsCalleeNamed types current how of_interface member callee
IsCalleeBy types current other callee = callee ≡ None

-- what the instruction of a site calls, by the class of its method
pub record IsCallee (types : AllTypes) (s : Site) (callee : Option Callee) : Type 0 where
  pub class : ℕ
  pub info : MethodInfo
  pub is : IsMethod types.classes s.method.0 class info
  pub by : IsCalleeBy types class (symbolic_of (pool_at types.classes class) s.at.instr) callee

-- The slots that a call takes and gives, read off the descriptor of its method (JVMS 4.3.3) from the front.
use Rattle.std.specs.Prelude.{ℕ, true, ◌&&◌, List, [], ◌∷◌, ◌++◌, fold, Option, Some, None, ◌==◌, if◌then◌else◌}
use Rattle.wf_base.specs.declared.kind.Kind.{Kind}
use Rattle.wf_base.specs.declared.kind.Kind.TheVariants as kind
use Rattle.wf_descriptor.specs.Descriptors.{kind_of}
use Rattle.wf_operation.specs.declared.slot.SlotKind.{SlotKind}
use Rattle.wf_operation.specs.declared.slot.SlotKind.TheVariants.{Ref}
use Rattle.wf_operation.specs.declared.sort.Call.{Call}
use Rattle.wf_operation.specs.declared.sort.Call.TheVariants.{Virtual, Special, Static, Interface}
use Rattle.wf_operation.specs.declared.signature.Scan.{Scan}
use Rattle.wf_operation.specs.declared.signature.Scan.TheVariants.{Start, Params, Array, Name, Return, End}
use Rattle.wf_operation.specs.declared.signature.Signature.{Signature}
use Rattle.wf_operation.specs.PoolSlots.{is_followed}
use Rattle.wf_operation.specs.Slots.{slots_of}

-- the slots of a receiver, which every call has but that of a static method
abbrev pub receiver : Call → List SlotKind
receiver Virtual = Ref ∷ []
receiver Special = Ref ∷ []
receiver Static = []
receiver Interface = Ref ∷ []

-- the slots of a result
abbrev pub result_slots : Option Kind → List SlotKind
result_slots None = []
result_slots (Some k) = slots_of k

-- in front of the descriptor
abbrev pub start : Call → Signature
start call = record { scan = Start; takes = receiver call; gives = None; followed = true }

abbrev pub in_scan : Signature → Scan → Signature
in_scan s next = record { scan = next; takes = s.takes; gives = s.gives; followed = s.followed }

-- one parameter more
abbrev pub with_param : Signature → Scan → Kind → Signature
with_param s next k = record { scan = next; takes = s.takes ++ slots_of k; gives = s.gives; followed = s.followed && is_followed k }

-- a result
abbrev pub with_result : Signature → Kind → Signature
with_result s k = record { scan = End; takes = s.takes; gives = Some k; followed = s.followed && is_followed k }

-- behind one byte more
abbrev pub step_in : Scan → Signature → ℕ → Signature
step_in Start s b = in_scan s Params
step_in Params s b =
    if b == 41 then in_scan s Return else if b == 91 then with_param s Array kind.Ref
    else if b == 76 then with_param s Name kind.Ref else with_param s Params (kind_of b)
step_in Array s b = if b == 91 then s else if b == 76 then in_scan s Name else in_scan s Params
step_in Name s b = if b == 59 then in_scan s Params else s
step_in Return s b = if b == 86 then in_scan s End else with_result s (kind_of b)
step_in End s b = s

abbrev pub step : Signature → ℕ → Signature
step s b = step_in s.scan s b

-- what bytes say that are a descriptor
abbrev pub signature_of : Call → List ℕ → Signature
signature_of call desc = fold step (start call) desc

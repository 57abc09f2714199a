-- Why a body has no instructions that the analysis reads.
use Rattle.std.specs.Prelude.{ℕ, List}
use Rattle.wf_data.specs.declared.class_info.PoolEntry.{PoolEntry}
use Rattle.wf_refusals.specs.declared.body.BodyFault.{BodyFault}
use Rattle.wf_refusals.specs.declared.body.BodyFault.TheVariants.{Refused, NoMemory}
use Rattle.wf_data.specs.declared.what.What.TheVariants.{Code}
use Rattle.wf_opcode.specs.declared.fault.DecodeFault.{DecodeFault}
use Rattle.wf_opcode.specs.declared.fault.DecodeFault.TheVariants as decoded
use Rattle.wf_refusals.specs.Refusals.{refusal, IsUnreadable}

-- a fault of a body
abbrev pub IsBodyFault : List PoolEntry → List ℕ → BodyFault → Type 0
IsBodyFault pool code (Refused r) = IsUnreadable pool code r
IsBodyFault pool code NoMemory = Unit {0}

-- what it means for a body that its code is no list of instructions
abbrev pub fault_of : DecodeFault → BodyFault
fault_of (decoded.BadCode pc) = Refused (refusal pc Code)
fault_of decoded.NoMemory = NoMemory

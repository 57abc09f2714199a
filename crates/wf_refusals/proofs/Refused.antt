-- A code that is no list of instructions is refused.
use Rattle.std.proofs.Common.{ℕ, List}
use Rattle.wf_data.specs.declared.class_info.PoolEntry.{PoolEntry}
use Rattle.wf_opcode.specs.Instructions.{IsFault}
use Rattle.wf_opcode.specs.declared.fault.DecodeFault.{DecodeFault}
use Rattle.wf_opcode.specs.declared.fault.DecodeFault.TheVariants.{BadCode, NoMemory}
use Rattle.wf_refusals.specs.Refusals.{bytes}
use Rattle.wf_refusals.specs.Faults.{IsBodyFault, fault_of}

pub fault_is : (pool : List PoolEntry) (code : List ℕ) (f : DecodeFault) → IsFault code f → IsBodyFault pool code (fault_of f)
fault_is pool code (BadCode pc) h = bytes pc h
fault_is pool code NoMemory h = tt

use Rattle.std.proofs.Common.{◌≡◌, ℕ, List, Err, subst}
use Rattle.std.specs.Prelude.{IfOk}
use Rattle.wf_data.specs.declared.class_info.ClassInfo.{ClassInfo}
use Rattle.wf_bytes.specs.declared.fault.Why.{Why}
use Rattle.wf_bytes.specs.Reading.{bad}
use Rattle.wf_grammar.specs.ClassFile.{Spells}
use Rattle.wf_grammar.specs.Reading.{class_of, FirstFault}
use Rattle.wf_constpool.specs.declared.fault.ClassFault.TheVariants.{Bad}
use Rattle.wf_constpool.specs.Readers.{GivesValue}
use Rattle.wf_classfile.proofs.read.read_class_file.Goals as goal

pub returns-clause-class : goal.returns-clause-class
returns-clause-class c = subst (λ (b : List ℕ). IfOk c.read_bytes.result (Spells b)) c.as_slice.ensures c.read_bytes.ensures.class

pub returns-clause-fault : goal.returns-clause-fault
returns-clause-fault c = subst (λ (b : List ℕ). (offset : ℕ) (why : Why) → c.read_bytes.result ≡ Err (Bad offset why) → FirstFault b (bad offset why)) c.as_slice.ensures c.read_bytes.ensures.fault

pub returns-clause-none : goal.returns-clause-none
returns-clause-none c = subst (λ (b : List ℕ). (offset : ℕ) (why : Why) (class : ClassInfo) → c.read_bytes.result ≡ Err (Bad offset why) → Spells b class → ⊥) c.as_slice.ensures c.read_bytes.ensures.none

pub returns-clause-reading : goal.returns-clause-reading
returns-clause-reading c = subst (λ (b : List ℕ). GivesValue c.read_bytes.result (class_of b)) c.as_slice.ensures c.read_bytes.ensures.reading

use Rattle.std.proofs.Common.{◌≡◌, ℕ, List, Result, Ok, Err, arith, subst}
use Rattle.std.specs.Prelude.{IfOk}
use Rattle.wf_data.specs.declared.class_info.ClassInfo.{ClassInfo}
use Rattle.wf_bytes.specs.declared.fault.Why.{Why}
use Rattle.wf_grammar.specs.ClassFile.{Spells}
use Rattle.wf_base.specs.Bytes.{IsBytes}
use Rattle.wf_bytes.specs.Reading.{bad}
use Rattle.wf_grammar.specs.Reading.{class_of}
use Rattle.wf_constpool.specs.declared.fault.ClassFault.{ClassFault}
use Rattle.wf_constpool.specs.declared.fault.ClassFault.TheVariants.{Bad}
use Rattle.wf_constpool.specs.Readers.{GivesValue}
use Rattle.wf_classfile.proofs.read.read_bytes.Goals as goal

-- by the law, what was read is spelled
spelled : (bytes : List ℕ) (result : Result ClassInfo ClassFault) → ((class : ClassInfo) → class_of bytes ≡ Ok class → Spells bytes class) → GivesValue result (class_of bytes) → IfOk result (Spells bytes)
spelled bytes (Ok class) law e = law class e
spelled bytes (Err fault) law e = tt

-- a fault that was answered is the one that is read
met : (bytes : List ℕ) (result : Result ClassInfo ClassFault) (offset : ℕ) (why : Why) → GivesValue result (class_of bytes) → result ≡ Err (Bad offset why) → class_of bytes ≡ Err (bad offset why)
met bytes result offset why given e = let P : Result ClassInfo ClassFault → Type 0 = λ r. GivesValue r (class_of bytes) in subst P e given

-- what is read of the file is what is read of its bytes
given : (file bytes : List ℕ) (result : Result ClassInfo ClassFault) → file ≡ bytes → GivesValue result (class_of file) → GivesValue result (class_of bytes)
given file bytes result same h = subst (λ (b : List ℕ). GivesValue result (class_of b)) same h

pub returns-clause-class : goal.returns-clause-class
returns-clause-class c =
    let bytes = c.args.bytes.now in
    let fits : IsBytes bytes = record { each = λ i. omega (arith, c.type_inv.bytes i) } in
    spelled bytes c.class_of.result (λ class. c.class_files_are_read_exactly.ensures.read bytes class fits) (given c.args.file.now bytes c.class_of.result c.requires.same c.class_of.ensures)

pub returns-clause-fault : goal.returns-clause-fault
returns-clause-fault c = λ offset why e. met c.args.bytes.now c.class_of.result offset why (given c.args.file.now c.args.bytes.now c.class_of.result c.requires.same c.class_of.ensures) e

pub returns-clause-none : goal.returns-clause-none
returns-clause-none c = λ offset why class e. c.faults_are_first.ensures.none c.args.bytes.now (bad offset why) class (met c.args.bytes.now c.class_of.result offset why (given c.args.file.now c.args.bytes.now c.class_of.result c.requires.same c.class_of.ensures) e)

pub returns-clause-reading : goal.returns-clause-reading
returns-clause-reading c = given c.args.file.now c.args.bytes.now c.class_of.result c.requires.same c.class_of.ensures

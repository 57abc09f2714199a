-- What follows of a run, and of the status that it has.
use Rattle.std.proofs.Common.{◌≡◌, ℕ, ◌⊎◌, List, Option, Some, Result, Ok, Err, refl, sym, ap, subst, ◌∙◌, inl, inr, arith}
use Rattle.wf_first.specs.declared.program.Program.{Program}
use Rattle.wf_io.specs.declared.tree.MemFile.{MemFile}
use Rattle.wf_io.specs.Faults.{Rose}
use Rattle.wf_io.specs.Log.{Seen, failures}
use Rattle.wf_runs.specs.declared.fault.Refusal.{Refusal}
use Rattle.wf_runs.specs.declared.fault.Refusal.TheVariants.{Unbuilt, BadClass, WrongName, NoObject}
use Rattle.wf_runs.specs.declared.fault.RunFault.{RunFault}
use Rattle.wf_runs.specs.declared.fault.RunFault.TheVariants.{Refused, ReadFault, WriteFault, NoMemory}
use Rattle.wf_runs.specs.Due.{Given, RefusedFor, EndsFailed, NoneFails}
use Rattle.wf_runs.specs.Faults.{status_of, line_of}
use Rattle.std.specs.Prelude.{IsErrAnd}
use Rattle.wf_runs.specs.Run.{Run, Refuses, Does}
use Rattle.wf_runs.proofs.RunLaws.{at_once}
use Rattle.world.specs.Command.{IsCommand}
use Rattle.world.specs.Load.{load_run}
use Rattle.wf_runs.proofs.DueLaws.{IsSettled, gives_due, makes_part, makes_all, ends_failed, none_fails, never_writes, failed_is_counted}
use Rattle.world.specs.Outcome.{no_command, command, Outcome, CallsPart, CallsAll}
use Rattle.world.specs.Output.{Got, IsKnown, IsStatusOf, TellsFault, TellsOrNoMemory}
use Rattle.world.proofs.OutcomeLaws.{outcome_is_one}
use Rattle.world.specs.Run.{IsReportOf, IsReport, IsRefusal, TellsRefusal, LastFails, Reports, Analyses, IsStatusFor, IsStatus}

-- ---- how a run for words comes about

pub no_words : (words : List (List ℕ)) (seen : Seen) → ((roots dir : List ℕ) → IsCommand words roots dir → ⊥) → Analyses words seen seen (Err (Refused Unbuilt))
no_words words seen none = record { run = Refuses Unbuilt; for_words = no_command none; answer = Err (Refused Unbuilt); does = at_once seen (inl refl); reports = refl }

pub not_read : (words : List (List ℕ)) (old new : Seen) (roots dir : List ℕ) (fault : RunFault) (result : Result (List ℕ) RunFault) → IsCommand words roots dir → IsErrAnd result (λ e. e ≡ fault)
    → Does (load_run roots dir) old new (Err fault) → Analyses words old new result
not_read words old new roots dir fault (Ok text) is h does = absurd h
not_read words old new roots dir fault (Err told) is h does = record { run = load_run roots dir; for_words = command roots dir is; answer = Err fault; does = does; reports = h }

pub no_room : (words : List (List ℕ)) (old new : Seen) (roots dir : List ℕ) (program : Program) (result : Result (List ℕ) RunFault) → IsCommand words roots dir → IsErrAnd result (λ e. e ≡ NoMemory)
    → Does (load_run roots dir) old new (Ok program) → Analyses words old new result
no_room words old new roots dir program (Ok text) is h does = absurd h
no_room words old new roots dir program (Err told) is h does = record { run = load_run roots dir; for_words = command roots dir is; answer = Ok program; does = does; reports = h }

pub reported : (words : List (List ℕ)) (old new : Seen) (roots dir : List ℕ) (program : Program) (text : List ℕ) → IsCommand words roots dir → IsReportOf program text → Does (load_run roots dir) old new (Ok program) → Analyses words old new (Ok text)
reported words old new roots dir program text is report does = record { run = load_run roots dir; for_words = command roots dir is; answer = Ok program; does = does; reports = report }

-- ---- the status of a report

pub print_status : (status : ℕ) → (status ≡ 0) ⊎ (status ≡ 7) → IsStatus status
print_status status (inl zero) = inl zero
print_status status (inr seven) = inr (inr (inr (inl seven)))

pub is_seven : (status : ℕ) → (status ≡ 0) ⊎ (status ≡ 7) → (status ≡ 0 → ⊥) → status ≡ 7
is_seven status (inl zero) other = absurd (other zero)
is_seven status (inr seven) other = seven

-- ---- what was answered

-- a fault in place of a report is that of the run, but for want of memory
answer_is : (words : List (List ℕ)) (old new : Seen) (fault : RunFault) (a : Analyses words old new (Err fault)) → (fault ≡ NoMemory → ⊥) → a.answer ≡ Err fault
answer_is words old new fault a other = go a.answer a.reports
  where
    go : (answer : Result Program RunFault) → Reports answer (Err fault) → answer ≡ Err fault
    go (Ok program) h = absurd (other h)
    go (Err f) h = let wrap : RunFault → Result Program RunFault = λ e. Err e in ap wrap (sym h)

-- the run ended so
does_so : (words : List (List ℕ)) (old new : Seen) (fault : RunFault) (a : Analyses words old new (Err fault)) → (fault ≡ NoMemory → ⊥) → Does a.run old new (Err fault)
does_so words old new fault a other = subst (λ (r : Result Program RunFault). Does a.run old new r) (answer_is words old new fault a other) a.does

-- nothing is written while a run goes on
no_write : (words : List (List ℕ)) (old new : Seen) → Analyses words old new (Err WriteFault) → ⊥
no_write words old new a = never_writes a.run old new (does_so words old new WriteFault a (λ e. absurd cc))

settled : (answer : Result Program RunFault) (result : Result (List ℕ) RunFault) → Reports answer result → IsSettled result → IsSettled answer
settled (Ok program) result h s = tt
settled (Err fault) (Ok text) h s = absurd h
settled (Err fault) (Err told) h s = subst (λ (f : RunFault). IsSettled {X = Program} (Err f)) h (same told s)
  where
    same : (f : RunFault) → IsSettled {X = List ℕ} (Err f) → IsSettled {X = Program} (Err f)
    same (Refused refusal) s = tt
    same (ReadFault path) s = absurd s
    same WriteFault s = absurd s
    same NoMemory s = absurd s

-- a report is that of the program that is due
pub report_is_due : (files : List MemFile) (words : List (List ℕ)) (old new : Seen) (text : List ℕ) → Analyses words old new (Ok text) → old.told ≡ Some files → IsReport files words text
report_is_due files words old new text a told = go a.answer a.does a.reports
  where
    go : (answer : Result Program RunFault) → Does a.run old new answer → Reports answer (Ok text) → IsReport files words text
    go (Ok program) does h = record { program = program; outcome = record { run = a.run; for_words = a.for_words; is = gives_due files a.run old new (Ok program) does told }; report = h }
    go (Err fault) does h = absurd h

-- a refusal is the due one
refusal_is_due : (files : List MemFile) (words : List (List ℕ)) (old new : Seen) (refusal : Refusal) → Analyses words old new (Err (Refused refusal)) → old.told ≡ Some files → Outcome files words (RefusedFor refusal)
refusal_is_due files words old new refusal a told =
    record { run = a.run; for_words = a.for_words; is = gives_due files a.run old new (Err (Refused refusal)) (does_so words old new (Refused refusal) a (λ e. absurd cc)) told }

-- ---- the calls

pub calls_part : (files : List MemFile) (words : List (List ℕ)) (old new : Seen) (result : Result (List ℕ) RunFault) → Analyses words old new result → old.told ≡ Some files → CallsPart files words old new
calls_part files words old new result a told = record { run = a.run; for_words = a.for_words; part = makes_part files a.run old new a.answer a.does told }

all_where_settled : (files : List MemFile) (words : List (List ℕ)) (old new : Seen) (result : Result (List ℕ) RunFault) → Analyses words old new result → IsSettled result → old.told ≡ Some files → CallsAll files words old new
all_where_settled files words old new result a s told =
    record { run = a.run; for_words = a.for_words; all = makes_all files a.run old new a.answer a.does (settled a.answer result a.reports s) told }

none_where_settled : (words : List (List ℕ)) (old new : Seen) (result : Result (List ℕ) RunFault) → Analyses words old new result → IsSettled result → NoneFails old new
none_where_settled words old new result a s = none_fails a.run old new a.answer a.does (settled a.answer result a.reports s)

fails_last : (words : List (List ℕ)) (old new : Seen) (path : List ℕ) → Analyses words old new (Err (ReadFault path)) → EndsFailed path old new
fails_last words old new path a = ends_failed a.run old new path (does_so words old new (ReadFault path) a (λ e. absurd cc))

-- ---- by the status

-- each status has its faults
abbrev FaultOf : RunFault → ℕ → Type 0
FaultOf (Refused refusal) status = status ≡ status_of (Refused refusal)
FaultOf (ReadFault path) status = status ≡ 6
FaultOf WriteFault status = status ≡ 7
FaultOf NoMemory status = status ≡ 9

fault_or_nine : (fault : RunFault) (status : ℕ) → IsStatusOf fault status → FaultOf fault status ⊎ (status ≡ 9)
fault_or_nine (Refused refusal) status (inl is) = inl is
fault_or_nine (ReadFault path) status (inl is) = inl is
fault_or_nine WriteFault status (inl is) = inl is
fault_or_nine NoMemory status (inl is) = inl is
fault_or_nine fault status (inr h) = inr h.1

refusal_status : (refusal : Refusal) (status : ℕ) → status ≡ status_of (Refused refusal) → (status ≡ 3) ⊎ (status ≡ 10)
refusal_status Unbuilt status is = inr is
refusal_status (BadClass file offset why) status is = inl is
refusal_status (WrongName file name) status is = inl is
refusal_status NoObject status is = inl is

pub fault_status : (words : List (List ℕ)) (old new : Seen) (fault : RunFault) (status : ℕ) → Analyses words old new (Err fault) → IsStatusOf fault status → IsStatus status
fault_status words old new fault status a is = go fault a (fault_or_nine fault status is)
  where
    go : (f : RunFault) → Analyses words old new (Err f) → FaultOf f status ⊎ (status ≡ 9) → IsStatus status
    go f a (inr nine) = inr (inr (inr (inr (inl nine))))
    go (Refused refusal) a (inl is) = elim (refusal_status refusal status is) [ inl three ↦ inr (inl three) | inr ten ↦ inr (inr (inr (inr (inr ten)))) ]
    go (ReadFault path) a (inl is) = inr (inr (inl is))
    go WriteFault a (inl is) = inr (inr (inr (inl is)))
    go NoMemory a (inl is) = inr (inr (inr (inr (inl is))))

-- a status that is none of a read fault or of want of memory
pub settled_status : (words : List (List ℕ)) (old new : Seen) (fault : RunFault) (status : ℕ) → Analyses words old new (Err fault) → IsStatusOf fault status → (status ≡ 6 → ⊥) → (status ≡ 9 → ⊥) → IsSettled {X = List ℕ} (Err fault)
settled_status words old new fault status a is six nine = go fault a (fault_or_nine fault status is)
  where
    go : (f : RunFault) → Analyses words old new (Err f) → FaultOf f status ⊎ (status ≡ 9) → IsSettled {X = List ℕ} (Err f)
    go f a (inr h) = absurd (nine h)
    go (Refused refusal) a (inl h) = tt
    go (ReadFault path) a (inl h) = absurd (six h)
    go WriteFault a (inl h) = absurd (no_write words old new a)
    go NoMemory a (inl h) = absurd (nine h)

pub no_call_failed : (words : List (List ℕ)) (old new : Seen) (fault : RunFault) (status : ℕ) → Analyses words old new (Err fault) → IsStatusOf fault status → (status ≡ 6 → ⊥) → (status ≡ 9 → ⊥) → NoneFails old new
no_call_failed words old new fault status a is six nine = none_where_settled words old new (Err fault) a (settled_status words old new fault status a is six nine)

pub no_call_failed_for : (words : List (List ℕ)) (old new : Seen) (text : List ℕ) → Analyses words old new (Ok text) → NoneFails old new
no_call_failed_for words old new text a = none_where_settled words old new (Ok text) a tt

not_six : (status : ℕ) → (status ≡ 0) ⊎ (status ≡ 3) ⊎ (status ≡ 7) ⊎ (status ≡ 10) → (status ≡ 6 → ⊥) × (status ≡ 9 → ⊥)
not_six status h = (λ six. omega (arith, h, six), λ nine. omega (arith, h, nine))

pub calls_all : (files : List MemFile) (words : List (List ℕ)) (old new : Seen) (fault : RunFault) (status : ℕ) → Analyses words old new (Err fault) → IsStatusOf fault status
    → (status ≡ 0) ⊎ (status ≡ 3) ⊎ (status ≡ 7) ⊎ (status ≡ 10) → old.told ≡ Some files → CallsAll files words old new
calls_all files words old new fault status a is one told =
    let apart = not_six status one in
    all_where_settled files words old new (Err fault) a (settled_status words old new fault status a is apart.0 apart.1) told

pub calls_all_for : (files : List MemFile) (words : List (List ℕ)) (old new : Seen) (text : List ℕ) → Analyses words old new (Ok text) → old.told ≡ Some files → CallsAll files words old new
calls_all_for files words old new text a told = all_where_settled files words old new (Ok text) a tt told

-- a read fault
pub last_fails : (words : List (List ℕ)) (old new : Seen) (fault : RunFault) (status : ℕ) → Analyses words old new (Err fault) → IsStatusOf fault status → status ≡ 6 → LastFails old new
last_fails words old new fault status a is six = go fault a (fault_or_nine fault status is)
  where
    go : (f : RunFault) → Analyses words old new (Err f) → FaultOf f status ⊎ (status ≡ 9) → LastFails old new
    go f a (inr nine) = absurd (omega (arith, six, nine))
    go (Refused refusal) a (inl h) = elim (refusal_status refusal status h) [ inl three ↦ absurd (omega (arith, six, three)) | inr ten ↦ absurd (omega (arith, six, ten)) ]
    go (ReadFault path) a (inl h) = record { path = path; fails = fails_last words old new path a }
    go WriteFault a (inl h) = absurd (omega (arith, six, h))
    go NoMemory a (inl h) = absurd (omega (arith, six, h))

pub count_rose : (words : List (List ℕ)) (old new : Seen) (fault : RunFault) (status : ℕ) → Analyses words old new (Err fault) → IsStatusOf fault status → status ≡ 6 → Rose (failures old.log) (failures new.log)
count_rose words old new fault status a is six = let last = last_fails words old new fault status a is six in failed_is_counted last.path old new last.fails

-- a write fault comes of the sink alone
pub not_written : (words : List (List ℕ)) (old new : Seen) (fault : RunFault) (status : ℕ) → Analyses words old new (Err fault) → IsStatusOf fault status → (status ≡ 0) ⊎ (status ≡ 7) → ⊥
not_written words old new fault status a is one = go fault a (fault_or_nine fault status is)
  where
    go : (f : RunFault) → Analyses words old new (Err f) → FaultOf f status ⊎ (status ≡ 9) → ⊥
    go f a (inr nine) = omega (arith, one, nine)
    go (Refused refusal) a (inl h) = elim (refusal_status refusal status h) [ inl three ↦ omega (arith, one, three) | inr ten ↦ omega (arith, one, ten) ]
    go (ReadFault path) a (inl h) = omega (arith, one, h)
    go WriteFault a (inl h) = no_write words old new a
    go NoMemory a (inl h) = omega (arith, one, h)

-- the fault of a status of refusals
record RefusalOf (fault : RunFault) (status : ℕ) : Type 0 where
  refusal : Refusal
  same : fault ≡ Refused refusal
  is : status ≡ status_of (Refused refusal)

refusal_of : (fault : RunFault) (status : ℕ) → IsStatusOf fault status → (status ≡ 3) ⊎ (status ≡ 10) → RefusalOf fault status
refusal_of fault status is one = go fault (fault_or_nine fault status is)
  where
    go : (f : RunFault) → FaultOf f status ⊎ (status ≡ 9) → RefusalOf f status
    go f (inr nine) = absurd (omega (arith, one, nine))
    go (Refused refusal) (inl h) = record { refusal = refusal; same = refl; is = h }
    go (ReadFault path) (inl h) = absurd (omega (arith, one, h))
    go WriteFault (inl h) = absurd (omega (arith, one, h))
    go NoMemory (inl h) = absurd (omega (arith, one, h))

due_for : (files : List MemFile) (words : List (List ℕ)) (old new : Seen) (fault : RunFault) (refusal : Refusal) → Analyses words old new (Err fault) → fault ≡ Refused refusal → old.told ≡ Some files → Outcome files words (RefusedFor refusal)
due_for files words old new fault refusal a same told =
    refusal_is_due files words old new refusal (subst (λ (f : RunFault). Analyses words old new (Err f)) same a) told

pub refusal_due : (files : List MemFile) (words : List (List ℕ)) (old new : Seen) (fault : RunFault) (status : ℕ) → Analyses words old new (Err fault) → IsStatusOf fault status → (status ≡ 3) ⊎ (status ≡ 10) → old.told ≡ Some files → IsRefusal files words status
refusal_due files words old new fault status a is one told =
    let r = refusal_of fault status is one in
    record { refusal = r.refusal; due = due_for files words old new fault r.refusal a r.same told; is = r.is }

pub refusal_told : (files : List MemFile) (words : List (List ℕ)) (old new : Seen) (fault : RunFault) (status : ℕ) (had : List ℕ) (taken : Option (List ℕ)) (before behind : ℕ) → Analyses words old new (Err fault) → IsStatusOf fault status
    → (status ≡ 3) ⊎ (status ≡ 10) → old.told ≡ Some files → TellsOrNoMemory fault status had taken before behind → TellsRefusal files words status had taken before behind
refusal_told files words old new fault status had taken before behind a is one told tells = go tells
  where
    go : TellsOrNoMemory fault status had taken before behind → TellsRefusal files words status had taken before behind
    go (inl t) =
        let r = refusal_of fault status is one in
        record { refusal = r.refusal; due = due_for files words old new fault r.refusal a r.same told; is = r.is; got = subst (λ (f : RunFault). Got had (line_of f) taken before behind) r.same t.got }
    go (inr t) = absurd (omega (arith, one, t.is))

-- a fault that is told is known
known : (words : List (List ℕ)) (old new : Seen) (fault : RunFault) → Analyses words old new (Err fault) → IsKnown old new fault
known words old new (Refused refusal) a = tt
known words old new (ReadFault path) a = fails_last words old new path a
known words old new WriteFault a = tt
known words old new NoMemory a = tt

pub fault_told : (words : List (List ℕ)) (old new : Seen) (fault : RunFault) (status : ℕ) (had : List ℕ) (taken : Option (List ℕ)) (before behind : ℕ) → Analyses words old new (Err fault)
    → TellsOrNoMemory fault status had taken before behind → TellsFault old new status had taken before behind
fault_told words old new fault status had taken before behind a (inl t) = record { fault = fault; is = t.is; known = known words old new fault a; got = t.got }
fault_told words old new fault status had taken before behind a (inr t) = record { fault = NoMemory; is = t.is; known = tt; got = t.got }

-- where a report is due, and no call failed, only memory can be wanting
pub nothing_but_memory : (files : List MemFile) (words : List (List ℕ)) (old new : Seen) (program : Program) (fault : RunFault) (status : ℕ) → Analyses words old new (Err fault) → IsStatusOf fault status → old.told ≡ Some files
    → Outcome files words (Given program) → (Rose (failures old.log) (failures new.log) → ⊥) → (status ≡ 0) ⊎ (status ≡ 9)
nothing_but_memory files words old new program fault status a is told due rose = go fault a (fault_or_nine fault status is)
  where
    go : (f : RunFault) → Analyses words old new (Err f) → FaultOf f status ⊎ (status ≡ 9) → (status ≡ 0) ⊎ (status ≡ 9)
    go f a (inr nine) = inr nine
    go (Refused refusal) a (inl h) = absurd (apart (outcome_is_one files words _ _ due (refusal_is_due files words old new refusal a told)))
      where
        apart : Given program ≡ RefusedFor refusal → ⊥
        apart e = cc
    go (ReadFault path) a (inl h) = absurd (rose (failed_is_counted path old new (fails_last words old new path a)))
    go WriteFault a (inl h) = absurd (no_write words old new a)
    go NoMemory a (inl h) = inr h

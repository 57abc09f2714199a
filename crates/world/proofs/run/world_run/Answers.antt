use Rattle.std.proofs.Common.{inl, inr, Ok, Err}
use Rattle.world.specs.Command.{words_of}
use Rattle.world.proofs.ClauseLaws.{print_status, is_seven, report_is_due, calls_part, calls_all, calls_all_for, fault_status, no_call_failed, no_call_failed_for, last_fails, count_rose, not_written, refusal_due, refusal_told, fault_told, nothing_but_memory}
use Rattle.world.proofs.run.world_run.Goals as goal

pub returns-in-Ok-clause-statuses : goal.returns-in-Ok-clause-statuses
returns-in-Ok-clause-statuses g c = print_status _ c.print.ensures.statuses

pub returns-in-Ok-clause-runs : goal.returns-in-Ok-clause-runs
returns-in-Ok-clause-runs g c = record { result = Ok c.in-Ok.text; analyses = c.in-Ok.ensures; is = c.print.ensures.statuses }

pub returns-in-Ok-clause-reported : goal.returns-in-Ok-clause-reported
returns-in-Ok-clause-reported g c = λ had taken zero. record { text = c.in-Ok.text; analyses = c.in-Ok.ensures; has = c.print.ensures.printed had taken zero }

pub returns-in-Ok-clause-printed : goal.returns-in-Ok-clause-printed
returns-in-Ok-clause-printed g c = λ files had told taken zero.
    record { text = c.in-Ok.text; report = report_is_due files (words_of c.args.words.now) _ _ c.in-Ok.text c.in-Ok.ensures told; has = c.print.ensures.printed had taken zero }

pub returns-in-Ok-clause-calls : goal.returns-in-Ok-clause-calls
returns-in-Ok-clause-calls g c = λ files told. calls_part files (words_of c.args.words.now) _ _ _ c.in-Ok.ensures told

pub returns-in-Ok-clause-all_calls : goal.returns-in-Ok-clause-all_calls
returns-in-Ok-clause-all_calls g c = λ files told one. calls_all_for files (words_of c.args.words.now) _ _ c.in-Ok.text c.in-Ok.ensures told

pub returns-in-Ok-clause-none_failed : goal.returns-in-Ok-clause-none_failed
returns-in-Ok-clause-none_failed g c = λ six nine. no_call_failed_for (words_of c.args.words.now) _ _ c.in-Ok.text c.in-Ok.ensures

pub returns-in-Ok-clause-cut : goal.returns-in-Ok-clause-cut
returns-in-Ok-clause-cut g c = λ files had told taken seven.
    record { text = c.in-Ok.text; report = report_is_due files (words_of c.args.words.now) _ _ c.in-Ok.text c.in-Ok.ensures told; cut = c.print.ensures.cut had taken seven }

pub returns-in-Ok-clause-tells : goal.returns-in-Ok-clause-tells
returns-in-Ok-clause-tells g c = λ had taken other. c.print.ensures.tells had _ _ taken (is_seven _ c.print.ensures.statuses other)

pub returns-in-Ok-clause-tree_kept : goal.returns-in-Ok-clause-tree_kept
returns-in-Ok-clause-tree_kept g c = c.in-Ok.ensures.does.reached.told

pub returns-in-Err-clause-statuses : goal.returns-in-Err-clause-statuses
returns-in-Err-clause-statuses g c = fault_status (words_of c.args.words.now) _ _ c.in-Err.fault _ c.in-Err.ensures c.tell_fault.ensures.status

pub returns-in-Err-clause-runs : goal.returns-in-Err-clause-runs
returns-in-Err-clause-runs g c = record { result = Err c.in-Err.fault; analyses = c.in-Err.ensures; is = c.tell_fault.ensures.status }

pub returns-in-Err-clause-reported : goal.returns-in-Err-clause-reported
returns-in-Err-clause-reported g c = λ had taken zero. absurd (not_written (words_of c.args.words.now) _ _ c.in-Err.fault _ c.in-Err.ensures c.tell_fault.ensures.status (inl zero))

pub returns-in-Err-clause-printed : goal.returns-in-Err-clause-printed
returns-in-Err-clause-printed g c = λ files had told taken zero. absurd (not_written (words_of c.args.words.now) _ _ c.in-Err.fault _ c.in-Err.ensures c.tell_fault.ensures.status (inl zero))

pub returns-in-Err-clause-calls : goal.returns-in-Err-clause-calls
returns-in-Err-clause-calls g c = λ files told. calls_part files (words_of c.args.words.now) _ _ _ c.in-Err.ensures told

pub returns-in-Err-clause-all_calls : goal.returns-in-Err-clause-all_calls
returns-in-Err-clause-all_calls g c = λ files told one. calls_all files (words_of c.args.words.now) _ _ c.in-Err.fault _ c.in-Err.ensures c.tell_fault.ensures.status one told

pub returns-in-Err-clause-refused : goal.returns-in-Err-clause-refused
returns-in-Err-clause-refused g c = λ files had told taken one.
    refusal_told files (words_of c.args.words.now) _ _ c.in-Err.fault _ had _ _ _ c.in-Err.ensures c.tell_fault.ensures.status one told (c.tell_fault.ensures.told had taken)

pub returns-in-Err-clause-due : goal.returns-in-Err-clause-due
returns-in-Err-clause-due g c = λ files told one. refusal_due files (words_of c.args.words.now) _ _ c.in-Err.fault _ c.in-Err.ensures c.tell_fault.ensures.status one told

pub returns-in-Err-clause-read_fault : goal.returns-in-Err-clause-read_fault
returns-in-Err-clause-read_fault g c = λ six. count_rose (words_of c.args.words.now) _ _ c.in-Err.fault _ c.in-Err.ensures c.tell_fault.ensures.status six

pub returns-in-Err-clause-failed_call : goal.returns-in-Err-clause-failed_call
returns-in-Err-clause-failed_call g c = λ six. last_fails (words_of c.args.words.now) _ _ c.in-Err.fault _ c.in-Err.ensures c.tell_fault.ensures.status six

pub returns-in-Err-clause-none_failed : goal.returns-in-Err-clause-none_failed
returns-in-Err-clause-none_failed g c = λ six nine. no_call_failed (words_of c.args.words.now) _ _ c.in-Err.fault _ c.in-Err.ensures c.tell_fault.ensures.status six nine

pub returns-in-Err-clause-write_fault : goal.returns-in-Err-clause-write_fault
returns-in-Err-clause-write_fault g c = λ seven. absurd (not_written (words_of c.args.words.now) _ _ c.in-Err.fault _ c.in-Err.ensures c.tell_fault.ensures.status (inr seven))

pub returns-in-Err-clause-cut : goal.returns-in-Err-clause-cut
returns-in-Err-clause-cut g c = λ files had told taken seven. absurd (not_written (words_of c.args.words.now) _ _ c.in-Err.fault _ c.in-Err.ensures c.tell_fault.ensures.status (inr seven))

pub returns-in-Err-clause-complete : goal.returns-in-Err-clause-complete
returns-in-Err-clause-complete g c = λ files program told due tree out. nothing_but_memory files (words_of c.args.words.now) _ _ program c.in-Err.fault _ c.in-Err.ensures c.tell_fault.ensures.status told due tree

pub returns-in-Err-clause-err_kept : goal.returns-in-Err-clause-err_kept
returns-in-Err-clause-err_kept g c = λ zero. absurd (not_written (words_of c.args.words.now) _ _ c.in-Err.fault _ c.in-Err.ensures c.tell_fault.ensures.status (inl zero))

pub returns-in-Err-clause-tells : goal.returns-in-Err-clause-tells
returns-in-Err-clause-tells g c = λ had taken other. fault_told (words_of c.args.words.now) _ _ c.in-Err.fault _ had _ _ _ c.in-Err.ensures (c.tell_fault.ensures.told had taken)

pub returns-in-Err-clause-tree_kept : goal.returns-in-Err-clause-tree_kept
returns-in-Err-clause-tree_kept g c = c.in-Err.ensures.does.reached.told

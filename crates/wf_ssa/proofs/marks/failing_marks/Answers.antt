use Rattle.std.proofs.Common.{◌≡◌, false, ◌++◌, length, take, drop, sym, ap, subst, ◌∙◌, arith}
use Rattle.std.proofs.lemmas.List.{length-replicate}
use Rattle.wf_blocks.proofs.MethodLemmas.{written}
use Rattle.wf_ssa.specs.Keeping.{AreFails}
use Rattle.wf_ssa.proofs.MeetLemmas.{fails_are}
use Rattle.wf_ssa.proofs.marks.failing_marks.Goals as goal

pub returns : goal.returns
returns c =
    let v = c.in_ok-marks.marks in
    let new = c.mark_all.new.marks in
    let count : length new ≡ 65536 = omega (arith, c.mark_all.auto.marks, ap length c.deref_mut.ensures.value, ap length c.in_ok-marks.ensures, length-replicate 65536 false) in
    let whole : take v.len (new ++ drop (length new) v.items) ≡ new = written v.len new v.items (omega (arith, count, v.ok.0, ap length c.in_ok-marks.ensures, length-replicate 65536 false)) in
    subst (AreFails c.args.failing.now) (sym (c.from_vec.ensures ∙ whole)) (fails_are c.args.failing.now c.deref_mut.result.now new (c.deref_mut.ensures.value ∙ c.in_ok-marks.ensures) count c.mark_all.ensures)

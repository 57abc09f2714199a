use Rattle.std.proofs.Common.{◌≡◌, List, Ok, sym, ap, subst, ◌∙◌, arith}
use Rattle.std.proofs.lemmas.Result.{err_from_is_err_and}
use Rattle.wf_names.specs.declared.world.Unresolved.{Unresolved}
use Rattle.wf_report.specs.Giving.{Fails}
use Rattle.wf_report.specs.Reading.{say, place_said}
use Rattle.wf_report.proofs.Entries.{goes_on, fails, is_done}
use Rattle.wf_report.proofs.read.place_entries.Goals as goal

pub returns-in_err-place_at : goal.returns-in_err-place_at
returns-in_err-place_at c =
    let p = err_from_is_err_and c.from_residual.result c.from_residual.ensures.1 in
    let P : List Unresolved → Type 0 = λ xs. Fails c.in_err-place_at.field-0.0 (say (place_said xs) c.loop.lines) in
    rw (p.1, p.2) (fails place_said c.args.count c.loop.counter c.loop.found.items c.loop.lines _ c.in_err-place_at.field-0.0 (omega (arith, c.loop-test.true)) (subst P c.as_slice.ensures.value c.in_err-place_at.ensures) c.loop.invariant)

pub loop-preserved : goal.loop-preserved
loop-preserved c =
    let h : say (place_said c.loop.found.items) c.loop.lines ≡ Ok (c.in_ok-place_at.field-0, c.place_at.new.lines) =
    ap (λ (xs : List Unresolved). say (place_said xs) c.loop.lines) (sym c.as_slice.ensures.value) ∙ c.in_ok-place_at.ensures in
    rw c.in_ok-push.ensures.items (goes_on place_said c.args.count c.loop.counter c.loop.found.items c.in_ok-place_at.field-0 c.loop.lines c.place_at.new.lines _ (omega (arith, c.loop-test.true)) h c.loop.invariant)

pub returns : goal.returns
returns c = rw c.from_vec.ensures (is_done place_said c.args.count c.loop.counter c.loop.found.items c.loop.lines _ (omega (arith, c.loop-test.false)) c.loop.invariant)

use Rattle.std.proofs.Common.{◌≡◌, ◌<◌, List, Bool, true, false, ◌||◌, ◌++◌, length, length-set, get_or, take, drop, sym, ap, subst, ◌∙◌, arith}
use Rattle.std.specs.List.{list_any}
use Rattle.std.proofs.lemmas.List.{length-replicate, get_or-set_other}
use Rattle.wf_blocks.specs.declared.body.Body.{Body}
use Rattle.wf_blocks.specs.declared.body.Catcher.{Catcher}
use Rattle.wf_blocks.specs.Bodies.{is_handler}
use Rattle.wf_blocks.proofs.EdgeLemmas.{same_at}
use Rattle.wf_blocks.proofs.MethodLemmas.{written}
use Rattle.wf_ssa.specs.Keeping.{AreMeets}
use Rattle.wf_ssa.proofs.MeetLemmas.{handler_first, met_more}
use Rattle.wf_ssa.proofs.marks.meeting_marks.Goals as goal

pub loop-place-init : goal.loop-place-init
loop-place-init c =
    let b = c.args.blocks.now in
    let v = c.in_ok-marks.marks in
    let new = c.mark_handlers.new.marks in
    let places : c.len-places.result ≡ length b.steps = c.len-places.ensures ∙ ap (λ (x : Body). length x.steps) c.body.ensures in
    let count : length new ≡ c.len-places.result =
    omega (arith, c.mark_handlers.auto.marks, ap length c.deref_mut.ensures.value, ap length c.in_ok-marks.ensures, length-replicate c.len-places.result false) in
    let whole : take v.len (new ++ drop (length new) v.items) ≡ new = written v.len new v.items (omega (arith, count, v.ok.0, ap length c.in_ok-marks.ensures, length-replicate c.len-places.result false)) in
    let catchers : c.as_slice.result.now ≡ b.catchers = c.as_slice.ensures ∙ ap (λ (x : Body). x.catchers) c.body-2.ensures in
    record {
      count = ap length whole ∙ count ∙ places;
      below = λ reached p are lt. absurd (omega arith);
      rest = λ p low lt.
          ap (λ (ms : List Bool). get_or ms p false) whole
          ∙ handler_first c.len-places.result p c.deref_mut.result.now new (list_any (is_handler p) b.catchers) (c.deref_mut.ensures.value ∙ c.in_ok-marks.ensures) count (omega (arith, lt, places))
          (c.mark_handlers.ensures p ∙ ap (λ (cs : List Catcher). get_or c.deref_mut.result.now p true || list_any (is_handler p) cs) catchers);
    }

pub loop-place-preserved : goal.loop-place-preserved
loop-place-preserved c =
    let b = c.args.blocks.now in
    let ms = c.loop-place.marks.items in
    let at = c.loop-place.place in
    let lt : at < length b.steps = omega (arith, c.loop-place-test.true, c.len-places.ensures, ap (λ (x : Body). length x.steps) c.body.ensures) in
    let inside : at < length ms = omega (arith, lt, c.loop-place.invariant.count) in
    record {
      count = length-set ms at c.is_met.result ∙ c.loop-place.invariant.count;
      below = λ reached p are less.
          met_more b reached ms at p c.ways.result c.index.result.now c.is_met.result less inside (λ low. c.loop-place.invariant.below reached p are low) c.is_met.ensures
          (c.index.ensures ∙ same_at ms at c.index.result.now false inside ∙ c.loop-place.invariant.rest at (omega arith) lt) (c.ways.ensures reached are);
      rest = λ p low less. get_or-set_other ms at p c.is_met.result false (omega (arith, low)) ∙ c.loop-place.invariant.rest p (omega (arith, low)) less;
    }

pub returns : goal.returns
returns c = subst (AreMeets c.args.blocks.now) (sym c.from_vec.ensures) (record { each = λ reached p are lt. c.loop-place.invariant.below reached p are (omega (arith, lt, c.loop-place-test.false, c.len-places.ensures, ap (λ (x : Body). length x.steps) c.body.ensures)) })

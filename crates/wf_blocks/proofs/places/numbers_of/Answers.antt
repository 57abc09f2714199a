use Rattle.std.proofs.Common.{◌≡◌, ℕ, ◌+◌, ◌-◌, ◌<◌, length, get_or, drop, None, Some, List, Option, sym, ap, ◌∙◌, arith, length-set}
use Rattle.std.proofs.lemmas.List.{length-replicate}
use Rattle.wf_blocks.specs.Methods.{number_from}
use Rattle.wf_blocks.proofs.MethodLemmas.{number_more, all_alike, numbered_at_end}
use Rattle.wf_blocks.proofs.places.numbers_of.Goals as goal

pub loop-place-init : goal.loop-place-init
loop-place-init c =
    let pcs = c.args.pcs.now in
    let none : Option ℕ = None in
    record {
      low = omega arith;
      room = λ k h. omega (arith, c.end_of.ensures k h, ap length c.in_ok-numbers.ensures, length-replicate c.end_of.result none);
      each = λ pc. ap (λ (v : List (Option ℕ)). get_or v pc None) c.in_ok-numbers.ensures ∙ all_alike c.end_of.result pc none ∙ sym (numbered_at_end pcs (length pcs) pc (omega arith));
    }

pub loop-place-preserved : goal.loop-place-preserved
loop-place-preserved c =
    let pcs = c.args.pcs.now in
    let k = c.loop-place.place - 1 in
    let at : k + 1 ≡ c.loop-place.place = omega (arith, c.loop-place-test.true) in
    let lt : k < length pcs = omega (arith, c.loop-place-test.true, c.loop-place.invariant.low) in
    record {
      low = omega (arith, c.loop-place.invariant.low);
      room = λ j h. omega (arith, c.loop-place.invariant.room j h, length-set c.loop-place.numbers.items (get_or pcs k 0) (Some k));
      each = λ pc. number_more pcs c.loop-place.numbers.items k pc lt (c.loop-place.invariant.room k lt)
          (λ q. c.loop-place.invariant.each q ∙ ap (λ (n : ℕ). number_from n (drop n pcs) q) (sym at));
    }

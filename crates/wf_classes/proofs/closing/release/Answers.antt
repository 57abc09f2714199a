use Rattle.std.proofs.Common.{◌≡◌, ℕ, suc, ◌+◌, ◌-◌, ◌<◌, List, ◌∷◌, length, get_or, drop, subst, arith}
use Rattle.std.proofs.lemmas.List.{drop_more}
use Rattle.std.specs.Prelude.{slice_get, Some}
use Rattle.std.proofs.lemmas.Option.{slice_get-get_or}
use Rattle.wf_classes.specs.declared.waits.Wait.{Wait}
use Rattle.wf_classes.proofs.Telling.{Tells, is_waiting, tells_lower, tells_push}
use Rattle.wf_classes.proofs.closing.release.Goals as goal
use Rattle.wf_classes.proofs.closing.release.Goals.{then-left-eq0+in_ok-push, else-left-eq0}

abbrev wait_here : Wait
wait_here = record { above = 0; below = 0 }

-- the wait at hand is for a class that is there
inside : (told : List Wait) (n i : ℕ) → ((x : ℕ) (w : Wait) → slice_get told x ≡ Some w → w.below < n) → i < length told → (get_or told i wait_here).below < n
inside told n i h l = h i (get_or told i wait_here) (slice_get-get_or told i wait_here l)

next : (told : List Wait) (waiting order : List ℕ) (i : ℕ) (now order_now : List ℕ) → i < length told → Tells told waiting order (drop i told) now order_now → Tells told waiting order (get_or told i wait_here ∷ drop (i + 1) told) now order_now
next told waiting order i now order_now l h = subst (λ (ws : List Wait). Tells told waiting order ws now order_now) (drop_more told i wait_here l) h

pub bounds-waiting-wait-in-loop-wait : goal.bounds-waiting-wait-in-loop-wait
bounds-waiting-wait-in-loop-wait c =
    let i = inside c.args.told.now (length c.args.waiting.now) c.loop-wait.wait-index c.requires.inside.below c.loop-wait-test.true in
    omega (arith, i, c.loop-wait.invariant.size)

pub overflow_sub-left : goal.overflow_sub-left
overflow_sub-left c =
    let i = inside c.args.told.now (length c.args.waiting.now) c.loop-wait.wait-index c.requires.inside.below c.loop-wait-test.true in
    let w = get_or c.args.told.now c.loop-wait.wait-index wait_here in
    let here : w.below < length c.loop-wait.waiting = omega (arith, i, c.loop-wait.invariant.size) in
    omega (
      arith,
      is_waiting c.args.told.now c.args.waiting.now c.args.order.now.items w (drop (c.loop-wait.wait-index + 1) c.args.told.now) c.loop-wait.waiting c.loop-wait.order.items here
          (next c.args.told.now c.args.waiting.now c.args.order.now.items c.loop-wait.wait-index c.loop-wait.waiting c.loop-wait.order.items c.loop-wait-test.true c.loop-wait.invariant),
    )

pub loop-wait-preserved : goal.loop-wait-preserved
loop-wait-preserved c =
    let told = c.args.told.now in
    let i = c.loop-wait.wait-index in
    let w = get_or told i wait_here in
    let now = c.loop-wait.waiting in
    let inside : w.below < length now = omega (arith, inside told (length c.args.waiting.now) i c.requires.inside.below c.loop-wait-test.true, c.loop-wait.invariant.size) in
    let h = next told c.args.waiting.now c.args.order.now.items i now c.loop-wait.order.items c.loop-wait-test.true c.loop-wait.invariant in
    let waits = is_waiting told c.args.waiting.now c.args.order.now.items w (drop (i + 1) told) now c.loop-wait.order.items inside h in
    elim c.if-left-eq0.branch [
      | then-left-eq0+in_ok-push b ↦
          (let last : get_or now w.below 0 - 1 ≡ 0 = b.if-left-eq0.true in
          let one : 1 ≡ get_or now w.below 0 = omega (arith, last, waits) in
          rw (b.order-is, b.in_ok-push.ensures.items, last) (tells_push told c.args.waiting.now c.args.order.now.items w (drop (i + 1) told) now c.loop-wait.order.items inside one h))
      | else-left-eq0 b ↦
          (let more : suc (get_or now w.below 0 - 1) ≡ get_or now w.below 0 = omega (arith, waits) in
          rw b.order-is (tells_lower told c.args.waiting.now c.args.order.now.items w (drop (i + 1) told) now c.loop-wait.order.items (get_or now w.below 0 - 1) inside more b.if-left-eq0.false h))
    ]

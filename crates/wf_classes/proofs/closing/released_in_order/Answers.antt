use Rattle.std.proofs.Common.{◌≡◌, ℕ, ◌+◌, ◌<◌, List, [], ◌∷◌, ◌++◌, length, vec_len, take, drop, get_or, subst, sym, ap, ◌∙◌, arith}
use Rattle.std.proofs.lemmas.List.{take_at, take_more, length-take-le, get_or_read}
use Rattle.wf_classes.specs.declared.waits.Wait.{Wait}
use Rattle.wf_classes.specs.Closing.{AreInside, AreCounted, ListsZeros, IsReleasing, waits_for}
use Rattle.wf_classes.proofs.Worklist.{releasing_start, releasing_begin, releasing_end, counted_rest, inside_told}
use Rattle.wf_classes.proofs.closing.released_in_order.Goals as goal

-- the next class of the order is taken up
taken_up : (waits : List Wait) (start waiting order : List ℕ) (next : ℕ) → next < length order → IsReleasing waits start (take next order) [] waiting order → IsReleasing waits start (take (next + 1) order) (waits_for waits (get_or order next 0)) waiting order
taken_up waits start waiting order next l h =
    let size = length-take-le next order (omega arith) in
    let begun = releasing_begin waits start (take next order) waiting order (omega (arith, size)) h in
    subst (λ (done : List ℕ). IsReleasing waits start done (waits_for waits (get_or order next 0)) waiting order) (sym (take_more order next 0 l))
    (subst (λ k. IsReleasing waits start (take next order ++ get_or order k 0 ∷ []) (waits_for waits (get_or order k 0)) waiting order) size begun)

pub loop-next-init : goal.loop-next-init
loop-next-init c =
    let zeros = subst (λ (ws : List ℕ). ListsZeros ws (length ws) c.in_ok-order.order.items) c.as_slice.ensures.value c.in_ok-order.ensures in
    record { state = releasing_start c.args.waits.now c.args.waiting.items c.in_ok-order.order.items c.requires.counted zeros; upto = omega arith }

-- the waits that are told are those for the class that was read
told_is : (waits told : List Wait) (order : List ℕ) (next c : ℕ) → next < length order → c ≡ get_or order next c → told ≡ waits_for waits c → told ≡ waits_for waits (get_or order next 0)
told_is waits told order next c l e t = t ∙ ap (waits_for waits) (get_or_read order next c l e 0)

pub release-requires-clause-inside : goal.release-requires-clause-inside
release-requires-clause-inside c =
    let size : vec_len c.args.waiting ≡ length c.as_mut_slice.result.now = omega (arith, ap length c.as_mut_slice.ensures.value, c.loop-next.invariant.state.size, c.args.waiting.ok.0) in
    let inside = inside_told (vec_len c.args.waiting) c.args.waits.now c.index.result.now c.requires.inside in
    subst (λ n. AreInside n c.waits_for-told.result.now) size (subst (λ (ws : List Wait). AreInside (vec_len c.args.waiting) ws) (sym c.waits_for-told.ensures) inside)

pub release-requires-clause-counted : goal.release-requires-clause-counted
release-requires-clause-counted c =
    let more : c.loop-next.next < length c.loop-next.order.items = omega (arith, c.len.ensures) in
    let state = taken_up c.args.waits.now c.args.waiting.items c.loop-next.waiting.items c.loop-next.order.items c.loop-next.next more c.loop-next.invariant.state in
    let told = told_is c.args.waits.now c.waits_for-told.result.now c.loop-next.order.items c.loop-next.next c.index.result.now more c.index.ensures c.waits_for-told.ensures in
    let counted = counted_rest c.args.waits.now c.args.waiting.items (take (c.loop-next.next + 1) c.loop-next.order.items) (waits_for c.args.waits.now (get_or c.loop-next.order.items c.loop-next.next 0)) c.loop-next.waiting.items c.loop-next.order.items state in
    subst (λ (ws : List ℕ). AreCounted ws c.waits_for-told.result.now) (sym c.as_mut_slice.ensures.value) (subst (λ (ws : List Wait). AreCounted c.loop-next.waiting.items ws) (sym told) counted)

pub loop-next-preserved : goal.loop-next-preserved
loop-next-preserved c =
    let waits = c.args.waits.now in
    let start = c.args.waiting.items in
    let order = c.loop-next.order.items in
    let next = c.loop-next.next in
    let after = c.release.new.order.items in
    let more : next < length order = omega (arith, c.len.ensures) in
    let state = taken_up waits start c.loop-next.waiting.items order next more c.loop-next.invariant.state in
    let told = told_is waits c.waits_for-told.result.now order next c.index.result.now more c.index.ensures c.waits_for-told.ensures in
    let given = subst (λ (ws : List ℕ). IsReleasing waits start (take (next + 1) order) c.waits_for-told.result.now ws order) (sym c.as_mut_slice.ensures.value)
    (subst (λ (ws : List Wait). IsReleasing waits start (take (next + 1) order) ws c.loop-next.waiting.items order) (sym told) state) in
    let ended : IsReleasing waits start (take (next + 1) order) [] c.release.new.waiting after = c.in_ok-release.ensures waits start (take (next + 1) order) given in
    let size = length-take-le (next + 1) order (omega arith) in
    let fits = ended.fits in
    let front : take (next + 1) order ≡ take (next + 1) after = sym ended.front ∙ ap (λ k. take k after) size in
    let same : length c.release.new.waiting ≡ c.loop-next.waiting.len = omega (arith, ended.size, c.loop-next.invariant.state.size, c.loop-next.waiting.ok.0) in
    record {
      state = rw (take_at c.release.new.waiting (drop (length c.release.new.waiting) c.loop-next.waiting.items) c.loop-next.waiting.len same)
          (subst (λ (done : List ℕ). IsReleasing waits start done [] c.release.new.waiting after) front ended);
      upto = omega (arith, size, fits);
    }

pub returns : goal.returns
returns c =
    releasing_end c.args.waits.now c.args.waiting.items (take c.loop-next.next c.loop-next.order.items) c.loop-next.waiting.items c.loop-next.order.items
    (omega (arith, length-take-le c.loop-next.next c.loop-next.order.items c.loop-next.invariant.upto, c.len.ensures)) c.loop-next.invariant.state

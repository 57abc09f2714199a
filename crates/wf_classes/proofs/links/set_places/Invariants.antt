use Rattle.std.proofs.Common.{◌≡◌, ℕ, ◌<◌, get_or}
use Rattle.wf_classes.proofs.links.set_places.Given as goal

abbrev pub invariant-loop-h : goal.invariant-loop-h
invariant-loop-h l = (q : ℕ) → q < l.h → get_or l.places (get_or l.order q 0) 0 ≡ q

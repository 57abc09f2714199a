-- The walk of one directory.
use Rattle.std.proofs.Common.{◌≡◌, ℕ, suc, ◌-◌, ◌<◌, ◌+◌, Bool, true, false, List, [], refl, sym, ap, ◌∙◌, arith}
use Rattle.wf_runs.specs.declared.fault.Refusal.TheVariants.{Unbuilt}
use Rattle.wf_runs.specs.Run.{Gives, Refuses, ◌>>=◌}
use Rattle.wf_walk.specs.declared.limits.TheConstants.{MAX_ENTRIES, MAX_DEPTH}
use Rattle.wf_walk.specs.declared.walk.Listing.{Listing}
use Rattle.wf_walk.specs.declared.walk.Walked.{Walked}
use Rattle.wf_walk.specs.Walk.{entries_in, visit_all, walk, noted_from}

-- a directory that lies too deep is refused
pub too_deep : (depth : ℕ) (top : Bool) (dir : List ℕ) (w : Walked) → depth ≡ 0 → walk depth top dir w ≡ Refuses Unbuilt
unfolding walk
too_deep depth top dir w is = rw is refl

-- else it is listed, and its entries are gone over
goes_in-suc : (k : ℕ) (top : Bool) (dir : List ℕ) (w : Walked) → walk (suc k) top dir w ≡ (entries_in dir w.left >>= λ (listing : Listing). visit_all top (walk k false) listing w)
unfolding walk
goes_in-suc k top dir w = refl

pub goes_in : (depth : ℕ) (top : Bool) (dir : List ℕ) (w : Walked) → 0 < depth
    → walk depth top dir w ≡ (entries_in dir w.left >>= λ (listing : Listing). visit_all top (walk (depth - 1) false) listing w)
goes_in depth top dir w deep =
    let d : suc (depth - 1) ≡ depth = omega arith in
    ap (λ n. walk n top dir w) (sym d) ∙ goes_in-suc (depth - 1) top dir w

-- the walk of the named directory, from its start
pub from_start : (given dir : List ℕ) (noted : List (List ℕ)) → given ≡ dir → noted ≡ [] → noted_from dir ≡ (walk (MAX_DEPTH + 1) true given (record { left = MAX_ENTRIES; noted = noted }) >>= λ (w : Walked). Gives w.noted)
from_start given dir noted is none = rw (is, none) refl

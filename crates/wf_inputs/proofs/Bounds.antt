-- What is read, taken apart.
use Rattle.std.proofs.Common.{◌≡◌, ℕ, ◌≤◌, Bool, true, false, cond, ltb, List, length, Ok, Err, refl, ap}
use Rattle.std.proofs.lemmas.Bool.{ltb-false, le-ltb}
use Rattle.wf_names.specs.declared.limit.Limit.TheVariants.{SummaryLines}
use Rattle.wf_lines.specs.Lines.{lines_of}
use Rattle.wf_inputs.specs.declared.fault.InputFault.TheVariants.{TooMany}
use Rattle.wf_inputs.specs.Reading.{Read, ◌>>=◌, within_limit}

pub record Bound {X Y : Type 0} (r : Read X) (f : X → Read Y) (y : Y) : Type 0 where
  pub at : X
  pub is : r ≡ Ok at
  pub rest : f at ≡ Ok y

pub bound : {X Y : Type 0} (r : Read X) (f : X → Read Y) (y : Y) → (r >>= f) ≡ Ok y → Bound r f y
bound (Ok x) f y h = record { at = x; is = refl; rest = h }
bound (Err e) f y h = absurd cc

pub limited : {X : Type 0} (bytes : List ℕ) (r : Read X) (x : X) → within_limit bytes r ≡ Ok x → (length (lines_of bytes) ≤ 65536) × (r ≡ Ok x)
limited {X} bytes r x h = go (ltb 65536 (length (lines_of bytes))) refl h
  where
    go : (v : Bool) → ltb 65536 (length (lines_of bytes)) ≡ v → cond v (Err (TooMany SummaryLines 65536)) r ≡ Ok x → (length (lines_of bytes) ≤ 65536) × (r ≡ Ok x)
    go true e k = absurd cc
    go false e k = (ltb-false 65536 (length (lines_of bytes)) e, k)

pub unlimited : {X : Type 0} (bytes : List ℕ) (r : Read X) → length (lines_of bytes) ≤ 65536 → within_limit bytes r ≡ r
unlimited {X} bytes r le = ap (λ (v : Bool). cond v (Err (TooMany SummaryLines 65536)) r) (le-ltb 65536 (length (lines_of bytes)) le)

-- What a sink got in the end.
use Rattle.std.proofs.Common.{◌≡◌, ℕ, ◌+◌, List, ◌++◌, take, drop, Option, Some, Result, Ok, Err, sym, ap, ◌∙◌, append_assoc, inl, inr}
use Rattle.std.specs.Prelude.{OnOk, OnErr}
use Rattle.std.proofs.Math.Seq.{take-add}
use Rattle.wf_io.specs.declared.sink.SinkFault.{SinkFault}
use Rattle.wf_io.specs.Faults.{Rose}
use Rattle.world.specs.Output.{IsCut, Got}

-- all of the bytes, or a beginning and a risen count
pub got_from : {U : Type 0} (r : Result U SinkFault) (had bytes : List ℕ) (taken : Option (List ℕ)) (old new : ℕ)
    → OnOk r (taken ≡ Some (had ++ bytes)) → OnErr r (IsCut had bytes taken) → OnErr r (Rose old new) → Got had bytes taken old new
got_from (Ok u) had bytes taken old new all cut rose = inl all
got_from (Err e) had bytes taken old new all cut rose = inr (cut, rose)

-- a beginning and what follows it are a longer beginning
pub more_taken : (had bytes : List ℕ) (done n : ℕ) → Some ((had ++ take done bytes) ++ take n (drop done bytes)) ≡ Some (had ++ take (done + n) bytes)
more_taken had bytes done n = ap Some (append_assoc had (take done bytes) (take n (drop done bytes)) ∙ ap (λ t. had ++ t) (sym (take-add done n bytes)))

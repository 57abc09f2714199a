-- A loop that reads items ends at the first that fails.
use Rattle.std.proofs.Common.{◌≡◌, ℕ, suc, ◌-◌, ◌+◌, ◌<◌, List, ◌∷◌, ◌++◌, Result, Ok, ap, subst, arith}
use Rattle.wf_bytes.specs.Place.{Place}
use Rattle.wf_bytes.specs.Reading.{Fault, Reader, ◌>>=◌, many, many_on, times}
use Rattle.wf_bytes.proofs.Loops.{with_front, with_front_on}
use Rattle.wf_constpool.specs.declared.fault.ClassFault.{ClassFault}
use Rattle.wf_constpool.specs.declared.fault.ClassFault.TheVariants.{Bad, NoMemory}
use Rattle.wf_constpool.specs.Readers.{Fails}

-- where a step fails, so does the whole
pub bind_fails : {A B : Type 0} (e : ClassFault) (r : Result A Fault) (f : A → Result B Fault) → Fails e r → Fails e (r >>= f)
bind_fails NoMemory r f h = tt
bind_fails (Bad offset why) r f h = ap (λ z. z >>= f) h

pub ends : {X : Type 0} (e : ClassFault) (r : Reader X) (front : List X) (count i : ℕ) (p : Place) (total : Result (List X × Place) Fault) → i < count → Fails e (r p)
    → with_front front (many r (count - i) p) ≡ total → Fails e total
unfolding many
ends {X = X} e r front count i p total lt h so_far =
    let k : count - i ≡ suc (count - (i + 1)) = omega arith in
    let step = bind_fails e (r p) (λ x. many r (count - (i + 1)) x.1 >>= λ xs. Ok (x.0 ∷ xs.0, xs.1)) h in
    let whole = bind_fails e (r p >>= λ x. many r (count - (i + 1)) x.1 >>= λ xs. Ok (x.0 ∷ xs.0, xs.1)) (λ xs. Ok (front ++ xs.0, xs.1)) step in
    subst (λ (t : Result (List X × Place) Fault). Fails e t) so_far (rw k whole)

pub ends_on : {X K : Type 0} (e : ClassFault) (r : K → Reader (X × K)) (front : List X) (count i : ℕ) (k : K) (p : Place) (total : Result ((List X × K) × Place) Fault) → i < count → Fails e (r k p)
    → with_front_on front (many_on r (count - i) k p) ≡ total → Fails e total
unfolding many_on
ends_on {X = X} {K = K} e r front count i k p total lt h so_far =
    let n : count - i ≡ suc (count - (i + 1)) = omega arith in
    let step = bind_fails e (r k p) (λ x. many_on r (count - (i + 1)) x.0.1 x.1 >>= λ xs. Ok ((x.0.0 ∷ xs.0.0, xs.0.1), xs.1)) h in
    let whole = bind_fails e (r k p >>= λ x. many_on r (count - (i + 1)) x.0.1 x.1 >>= λ xs. Ok ((x.0.0 ∷ xs.0.0, xs.0.1), xs.1)) (λ xs. Ok ((front ++ xs.0.0, xs.0.1), xs.1)) step in
    subst (λ (t : Result ((List X × K) × Place) Fault). Fails e t) so_far (rw n whole)

pub ends_times : {K : Type 0} (e : ClassFault) (r : K → Reader K) (count i : ℕ) (k : K) (p : Place) (total : Result (K × Place) Fault) → i < count → Fails e (r k p)
    → times r (count - i) k p ≡ total → Fails e total
unfolding times
ends_times {K = K} e r count i k p total lt h so_far =
    let n : count - i ≡ suc (count - (i + 1)) = omega arith in
    let step = bind_fails e (r k p) (λ l. times r (count - (i + 1)) l.0 l.1) h in
    subst (λ (t : Result (K × Place) Fault). Fails e t) so_far (rw n step)

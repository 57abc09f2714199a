-- Reading line after line, as a loop does.
use Rattle.std.proofs.Common.{◌≡◌, ℕ, ◌+◌, List, [], ◌∷◌, Ok, Err, sym, ap, ◌∙◌}
use Rattle.wf_lines.specs.Lines.{lines_of}
use Rattle.wf_inputs.specs.declared.fault.InputFault.{InputFault}
use Rattle.wf_inputs.specs.declared.fault.InputFault.TheVariants.{Bad, TooMany, NoMemory}
use Rattle.wf_inputs.specs.Giving.{Fails}
use Rattle.wf_inputs.specs.Reading.{Read, ◌>>=◌, read_on}

pub one_line : {S : Type 0} (step : ℕ → S → List ℕ → Read S) (line : ℕ) (state : S) (text first behind : List ℕ) → lines_of text ≡ first ∷ lines_of behind
    → read_on step line state (lines_of text) ≡ (step line state first >>= λ next. read_on step (line + 1) next (lines_of behind))
unfolding read_on
one_line step line state text first behind cut = ap (λ (ls : List (List ℕ)). read_on step line state ls) cut

pub goes_on : {S : Type 0} (step : ℕ → S → List ℕ → Read S) (line : ℕ) (state next : S) (text first behind : List ℕ) (total : Read S) → lines_of text ≡ first ∷ lines_of behind → step line state first ≡ Ok next
    → read_on step line state (lines_of text) ≡ total → read_on step (line + 1) next (lines_of behind) ≡ total
goes_on {S} step line state next text first behind total cut h so =
    sym (one_line step line state text first behind cut ∙ ap (λ (r : Read S). r >>= λ n. read_on step (line + 1) n (lines_of behind)) h) ∙ so

pub stops : {S : Type 0} (step : ℕ → S → List ℕ → Read S) (line : ℕ) (state : S) (text first behind : List ℕ) (total : Read S) (fault : InputFault) → lines_of text ≡ first ∷ lines_of behind → step line state first ≡ Err fault
    → read_on step line state (lines_of text) ≡ total → total ≡ Err fault
stops {S} step line state text first behind total fault cut h so =
    sym so ∙ one_line step line state text first behind cut ∙ ap (λ (r : Read S). r >>= λ n. read_on step (line + 1) n (lines_of behind)) h

pub ends : {S : Type 0} (step : ℕ → S → List ℕ → Read S) (line : ℕ) (state : S) (text : List ℕ) (total : Read S) → lines_of text ≡ []
    → read_on step line state (lines_of text) ≡ total → total ≡ Ok state
unfolding read_on
ends step line state text total none so = sym so ∙ ap (λ (ls : List (List ℕ)). read_on step line state ls) none

-- a line that fails, whatever the fault is
pub fails : {S : Type 0} (step : ℕ → S → List ℕ → Read S) (line : ℕ) (state : S) (text first behind : List ℕ) (total : Read S) (fault : InputFault) → lines_of text ≡ first ∷ lines_of behind
    → Fails fault (step line state first) → read_on step line state (lines_of text) ≡ total → Fails fault total
fails step line state text first behind total NoMemory cut h so = tt
fails step line state text first behind total (Bad at why) cut h so = stops step line state text first behind total (Bad at why) cut h so
fails step line state text first behind total (TooMany limit most) cut h so = stops step line state text first behind total (TooMany limit most) cut h so

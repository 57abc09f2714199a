-- Reading a listing line after line.
use Rattle.std.proofs.Common.{◌≡◌, ℕ, suc, ◌+◌, ◌-◌, ◌<◌, ◌≤◌, ◌==◌, Bool, true, false, cond, List, [], ◌∷◌, length, take, Option, Some, None, refl, sym, ap, ◌∙◌, arith}
use Rattle.std.proofs.lemmas.List.{length-take}
use Rattle.std.proofs.lemmas.List.Splits.{length-slice_split}
use Rattle.std.specs.List.{slice_split, onto_first}
use Rattle.std.specs.Prelude.{slice_index}
use Rattle.std.specs.Str.Lines.{lines_of_parts, strip_carriage_return}
use Rattle.wf_lines.specs.Lines.{is_nothing, lines_of}
use Rattle.wf_listing.specs.declared.listing.Listed.{Listed}
use Rattle.wf_listing.specs.declared.listing.ListedMethod.{ListedMethod}
use Rattle.wf_listing.specs.declared.listing.Listing.{Listing}
use Rattle.wf_listing.specs.declared.listing.Open.{Open}
use Rattle.wf_listing.specs.declared.listing.Open.TheVariants as opens
use Rattle.wf_listing.specs.declared.listing.ReadSoFar.{ReadSoFar}
use Rattle.wf_listing.specs.declared.listing.Said.{Said}
use Rattle.wf_listing.specs.declared.listing.Said.TheVariants as said
use Rattle.wf_listing.specs.Lines.{line_said}
use Rattle.wf_listing.specs.Reading.{drop_spaces, depth, said_outside, said_on, next_said, line_on, at_end, lines_on}

pub space_goes_on : (rest behind : List ℕ) (total : List ℕ) → rest ≡ 32 ∷ behind → drop_spaces rest ≡ total → drop_spaces behind ≡ total
space_goes_on rest behind total e so_far = ap (λ (r : List ℕ). drop_spaces r) (sym e) ∙ so_far

pub goes_on : (line : ℕ) (so_far next : ReadSoFar) (text first behind : List ℕ) (total : Listing) → lines_of text ≡ first ∷ lines_of behind → next ≡ line_on line so_far (drop_spaces first)
    → lines_on line so_far (lines_of text) ≡ total → lines_on (line + 1) next (lines_of behind) ≡ total
unfolding lines_on
goes_on line so_far next text first behind total cut h so =
    ap (λ (s : ReadSoFar). lines_on (line + 1) s (lines_of behind)) h ∙ sym (ap (λ (ls : List (List ℕ)). lines_on line so_far ls) cut) ∙ so

pub ends : (line : ℕ) (so_far : ReadSoFar) (text : List ℕ) (total : Listing) → lines_of text ≡ [] → lines_on line so_far (lines_of text) ≡ total → total ≡ at_end line so_far
unfolding lines_on
ends line so_far text total none so = sym so ∙ ap (λ (ls : List (List ℕ)). lines_on line so_far ls) none

-- ---- how deep a line leads

at_most_two : (o : Open) → depth o ≤ 2
at_most_two opens.Nothing = omega arith
at_most_two (opens.Class c) = omega arith
at_most_two (opens.Body c m body) = omega arith

outside_deeper : (line : ℕ) (classes : List Listed) (bad : Option ℕ) (s : Said) → depth (said_outside line classes bad s).place ≤ 1
outside_deeper line classes bad (said.Class c) = omega arith
outside_deeper line classes bad s = omega arith

said_deeper : (line : ℕ) (classes : List Listed) (o : Open) (bad : Option ℕ) (s : Said) → depth (said_on line classes o bad s).place ≤ depth o + 1
said_deeper line classes opens.Nothing bad s = omega (arith, outside_deeper line classes bad s)
said_deeper line classes (opens.Class c) bad s = omega (arith, at_most_two (said_on line classes (opens.Class c) bad s).place)
said_deeper line classes (opens.Body c m body) bad s = omega (arith, at_most_two (said_on line classes (opens.Body c m body) bad s).place)

next_deeper : (line : ℕ) (so_far : ReadSoFar) (o : Option Said) → depth (next_said line so_far o).place ≤ depth so_far.place + 1
next_deeper line so_far None = omega arith
next_deeper line so_far (Some s) = said_deeper line so_far.classes so_far.place so_far.first_bad s

one_deeper : (line : ℕ) (so_far : ReadSoFar) (bytes : List ℕ) → depth (line_on line so_far bytes).place ≤ depth so_far.place + 1
one_deeper line so_far bytes = go (is_nothing bytes)
  where
    go : (v : Bool) → depth (cond v so_far (next_said line so_far (line_said line bytes))).place ≤ depth so_far.place + 1
    go true = omega arith
    go false = next_deeper line so_far (line_said line bytes)

-- an empty line leads nowhere
as_deep : (line : ℕ) (so_far : ReadSoFar) (bytes : List ℕ) → depth (line_on line so_far bytes).place ≤ depth so_far.place + length bytes
as_deep line so_far [] = omega arith
as_deep line so_far (b ∷ bytes) = omega (arith, one_deeper line so_far (b ∷ bytes))

-- ---- how many bytes lines take

-- at least one for each line, besides its own
abbrev pub weight : List (List ℕ) → ℕ
weight [] = 0
weight (l ∷ ls) = 1 + length l + weight ls

onto_one : (b : ℕ) (ps : List (List ℕ)) → 0 < length ps → weight (onto_first b ps) ≡ 1 + weight ps
onto_one b [] lt = absurd (omega arith)
onto_one b (p ∷ ps) lt = omega arith

pieces : (t : List ℕ) → weight (slice_split (λ b. b == 10) t) ≡ length t + 1
pieces [] = omega arith
pieces (b ∷ t) = go (b == 10) (pieces t)
  where
    go : (v : Bool) → weight (slice_split (λ b. b == 10) t) ≡ length t + 1 → weight (cond v ([] ∷ slice_split (λ b. b == 10) t) (onto_first b (slice_split (λ b. b == 10) t))) ≡ length (b ∷ t) + 1
    go true h = omega arith
    go false h = omega (arith, onto_one b (slice_split (λ b. b == 10) t) (omega (arith, length-slice_split (λ b. b == 10) t)))

stripped : (l : List ℕ) → length (strip_carriage_return l) ≤ length l
stripped l = go (slice_index l (length l - 1) == 13)
  where
    go : (v : Bool) → length (cond v (take (length l - 1) l) l) ≤ length l
    go true = omega (arith, length-take (length l - 1) l)
    go false = omega arith

line_weight : (ps : List (List ℕ)) → weight (lines_of_parts ps) ≤ weight ps
line_weight [] = omega arith
line_weight (x ∷ []) = go (length x == 0)
  where
    go : (v : Bool) → weight (cond v [] (x ∷ [])) ≤ weight (x ∷ [])
    go true = omega arith
    go false = omega arith
line_weight (x ∷ y ∷ more) = omega (arith, stripped x, line_weight (y ∷ more))

pub text_weight : (text : List ℕ) → weight (lines_of text) ≤ length text + 1
text_weight text = omega (arith, pieces text, line_weight (slice_split (λ b. b == 10) text))

-- what a line adds in depth it takes in bytes
pub deeper : (line : ℕ) (so_far next : ReadSoFar) (text first bytes behind : List ℕ) → lines_of text ≡ first ∷ lines_of behind → length bytes ≤ length first → next ≡ line_on line so_far bytes
    → depth next.place + weight (lines_of behind) + 1 ≤ depth so_far.place + weight (lines_of text)
deeper line so_far next text first bytes behind cut short is =
    let whole : weight (lines_of text) ≡ 1 + length first + weight (lines_of behind) = ap weight cut in
    let deep : depth next.place ≡ depth (line_on line so_far bytes).place = ap (λ (s : ReadSoFar). depth s.place) is in
    omega (arith, as_deep line so_far bytes)

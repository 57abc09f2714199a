-- What a summary or a list of roots is read as (this project's own).
use Rattle.std.specs.Prelude.{ℕ, ◌+◌, Bool, List, [], ◌∷◌, ◌++◌, Option, Some, None, option_to_list, Result, Ok, Err, nat_lt, length, if◌then◌else◌}
use Rattle.wf_names.specs.declared.input.InputWhy.{InputWhy}
use Rattle.wf_names.specs.declared.input.InputWhy.TheVariants.{Form, Place}
use Rattle.wf_names.specs.declared.limit.Limit.TheVariants.{SummaryLines}
use Rattle.wf_names.specs.declared.member.MemberName.{MemberName}
use Rattle.wf_names.specs.declared.root.Root.{Root}
use Rattle.wf_names.specs.Limits.{most_of}
use Rattle.wf_lines.specs.Lines.{is_nothing, lines_of, words_of}
use Rattle.wf_inputs.specs.declared.fault.InputFault.{InputFault}
use Rattle.wf_inputs.specs.declared.fault.InputFault.TheVariants.{Bad, TooMany}
use Rattle.wf_inputs.specs.declared.roots.RootLine.{RootLine}
use Rattle.wf_inputs.specs.declared.roots.Roots.{Roots}
use Rattle.wf_inputs.specs.declared.said.Said.{Said}
use Rattle.wf_inputs.specs.declared.said.Said.TheVariants.{Opens, Does, Sets}
use Rattle.wf_inputs.specs.declared.summary.Block.{Block}
use Rattle.wf_inputs.specs.declared.summary.Effect.{Effect}
use Rattle.wf_inputs.specs.declared.summary.Summary.{Summary}
use Rattle.wf_inputs.specs.declared.summary.Value.{Value}
use Rattle.wf_inputs.specs.declared.read.SoFar.{SoFar}
use Rattle.wf_inputs.specs.Saying.{line_said, root_said}

abbrev pub Read : Type 0 → Type 0
Read X = Result X InputFault

infixl 10 ◌>>=◌
abbrev pub ◌>>=◌ : {X Y : Type 0} → Read X → (X → Read Y) → Read Y
(Ok x) >>= f = f x
(Err fault) >>= f = Err fault

-- the first bad line and its word
abbrev pub bad : {X : Type 0} → ℕ → InputWhy → Read X
bad line why = Err (Bad line why)

-- Lines are read one after the other. They are counted from 1, the ones that mean nothing too.
unfoldable pub read_on : {S : Type 0} → (ℕ → S → List ℕ → Read S) → ℕ → S → List (List ℕ) → Read S
read_on step line state [] = Ok state
read_on step line state (text ∷ texts) = step line state text >>= λ next. read_on step (line + 1) next texts

-- More lines than the limit are too many, whatever stands in them.
abbrev pub within_limit : {X : Type 0} → List ℕ → Read X → Read X
within_limit bytes read = if nat_lt (most_of SummaryLines) (length (lines_of bytes)) then Err (TooMany SummaryLines (most_of SummaryLines)) else read

-- ---- summaries

-- the blocks with the one that is open
abbrev pub closed : List Block → Option Block → List Block
closed blocks now = blocks ++ option_to_list now

-- a block begins
abbrev pub with_block : ℕ → Bool → MemberName → SoFar → SoFar
with_block line replace method s =
    record { blocks = closed s.blocks s.now; now = Some (record { line = line; replace = replace; method = method; effects = [] }); literals = s.literals }

-- An effect belongs to the block that is open. Outside a block it is out of place.
abbrev pub with_effect : ℕ → Effect → SoFar → Option Block → Read SoFar
with_effect line effect s None = bad line Place
with_effect line effect s (Some b) = Ok (record {
  blocks = s.blocks;
  now = Some (record { line = b.line; replace = b.replace; method = b.method; effects = b.effects ++ record { line = line; effect = effect } ∷ [] });
  literals = s.literals;
})

-- a literal, which ends a block
abbrev pub with_literal : ℕ → MemberName → Value → SoFar → SoFar
with_literal line field value s = record { blocks = closed s.blocks s.now; now = None; literals = s.literals ++ record { line = line; field = field; value = value } ∷ [] }

abbrev pub taken : ℕ → SoFar → Said → Read SoFar
taken line s (Opens replace method) = Ok (with_block line replace method s)
taken line s (Does effect) = with_effect line effect s s.now
taken line s (Sets field value) = Ok (with_literal line field value s)

abbrev pub said_on : ℕ → SoFar → Option Said → Read SoFar
said_on line s None = bad line Form
said_on line s (Some said) = taken line s said

-- one line more
abbrev pub summary_on : ℕ → SoFar → List ℕ → Read SoFar
summary_on line s text = if is_nothing text then Ok s else said_on line s (line_said (words_of text))

abbrev pub nothing_yet : SoFar
nothing_yet = record { blocks = []; now = None; literals = [] }

abbrev pub summary_with : SoFar → Summary
summary_with s = record { blocks = closed s.blocks s.now; literals = s.literals }

-- the summary that bytes are, or the first fault
abbrev pub summary_of : List ℕ → Read Summary
summary_of bytes = within_limit bytes (read_on summary_on 1 nothing_yet (lines_of bytes) >>= λ s. Ok (summary_with s))

-- ---- roots

abbrev pub root_on : ℕ → List RootLine → Option Root → Read (List RootLine)
root_on line lines None = bad line Form
root_on line lines (Some root) = Ok (lines ++ record { line = line; root = root } ∷ [])

abbrev pub roots_on : ℕ → List RootLine → List ℕ → Read (List RootLine)
roots_on line lines text = if is_nothing text then Ok lines else root_on line lines (root_said (words_of text))

-- the roots that bytes are, or the first fault
abbrev pub roots_of : List ℕ → Read Roots
roots_of bytes = within_limit bytes (read_on roots_on 1 [] (lines_of bytes) >>= λ lines. Ok (record { lines = lines }))

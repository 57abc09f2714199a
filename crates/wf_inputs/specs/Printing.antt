-- How summaries and roots are printed (this project's own). A line is its words with a space between them.
use Rattle.std.specs.Prelude.{ℕ, Bool, true, false, List, [], ◌∷◌, ◌++◌, codes}
use Rattle.std.specs.List.{flat_map}
use Rattle.std.specs.Fmt.{decimal, signed_decimal}
use Rattle.wf_names.specs.declared.member.MemberName.{MemberName}
use Rattle.wf_names.specs.declared.root.Root.{Root}
use Rattle.wf_names.specs.declared.root.Root.TheVariants.{StaticCall, Inst, Make}
use Rattle.wf_names.specs.NameForm.{escaped}
use Rattle.wf_lines.specs.Lines.{line, joined}
use Rattle.wf_lines.specs.Members.{member_words}
use Rattle.wf_inputs.specs.declared.roots.RootLine.{RootLine}
use Rattle.wf_inputs.specs.declared.roots.Roots.{Roots}
use Rattle.wf_inputs.specs.declared.said.Said.{Said}
use Rattle.wf_inputs.specs.declared.said.Said.TheVariants.{Opens, Does, Sets}
use Rattle.wf_inputs.specs.declared.summary.Block.{Block}
use Rattle.wf_inputs.specs.declared.summary.Effect.{Effect}
use Rattle.wf_inputs.specs.declared.summary.Effect.TheVariants.{ReturnsVoid, Returns, Makes, Writes, Copies}
use Rattle.wf_inputs.specs.declared.summary.EffectLine.{EffectLine}
use Rattle.wf_inputs.specs.declared.summary.Literal.{Literal}
use Rattle.wf_inputs.specs.declared.summary.Summary.{Summary}
use Rattle.wf_inputs.specs.declared.summary.Value.{Value}
use Rattle.wf_inputs.specs.declared.summary.Value.TheVariants.{Null, Any, Int, New, OneOf, Arg}
use Rattle.wf_inputs.specs.Saying.{Words}

-- a value
abbrev pub value_words : Value → Words
value_words Null = codes "null" ∷ []
value_words Any = codes "any" ∷ []
value_words (Int n) = codes "int" ∷ signed_decimal n ∷ []
value_words (New name) = codes "new" ∷ escaped name ∷ []
value_words (OneOf name) = codes "some" ∷ escaped name ∷ []
value_words (Arg k) = codes "arg" ∷ decimal k ∷ []

-- a field and a value
abbrev pub setting_words : MemberName → Value → Words
setting_words field value = member_words field ++ value_words value

-- an effect
abbrev pub effect_words : Effect → Words
effect_words ReturnsVoid = codes "returns" ∷ codes "void" ∷ []
effect_words (Returns value) = codes "returns" ∷ value_words value
effect_words (Makes name) = codes "makes" ∷ escaped name ∷ []
effect_words (Writes field value) = codes "writes" ∷ setting_words field value
effect_words (Copies j k) = codes "copies" ∷ decimal j ∷ decimal k ∷ []

-- the word that begins a block
abbrev pub block_word : Bool → List ℕ
block_word false = codes "method"
block_word true = codes "replace"

-- a line of a summary
abbrev pub said_words : Said → Words
said_words (Opens replace method) = block_word replace ∷ member_words method
said_words (Does effect) = effect_words effect
said_words (Sets field value) = codes "literal" ∷ setting_words field value

abbrev pub said_text : Said → List ℕ
said_text said = joined (said_words said)

-- a line of a list of roots
abbrev pub root_words : Root → Words
root_words (StaticCall method) = codes "static" ∷ member_words method
root_words (Inst name) = codes "inst" ∷ escaped name ∷ []
root_words (Make name) = codes "make" ∷ escaped name ∷ []

abbrev pub root_text : Root → List ℕ
root_text root = joined (root_words root)

-- a line with an effect
abbrev pub effect_text : EffectLine → List ℕ
effect_text e = line (said_text (Does e.effect))

-- a block: the line that begins it, and its effects
abbrev pub block_text : Block → List ℕ
block_text b = line (said_text (Opens b.replace b.method)) ++ flat_map effect_text b.effects

abbrev pub literal_text : Literal → List ℕ
literal_text l = line (said_text (Sets l.field l.value))

-- a summary: its blocks, and then its literals
abbrev pub summary_text : Summary → List ℕ
summary_text s = flat_map block_text s.blocks ++ flat_map literal_text s.literals

abbrev pub root_line : RootLine → List ℕ
root_line l = line (root_text l.root)

-- a list of roots
abbrev pub roots_text : Roots → List ℕ
roots_text roots = flat_map root_line roots.lines

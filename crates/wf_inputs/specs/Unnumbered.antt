-- Summaries and roots in all but their line numbers (this project's own).
use Rattle.std.specs.Prelude.{◌≡◌, ℕ, List, map, Ok}
use Rattle.wf_inputs.specs.declared.roots.RootLine.{RootLine}
use Rattle.wf_inputs.specs.declared.roots.Roots.{Roots}
use Rattle.wf_inputs.specs.declared.summary.Block.{Block}
use Rattle.wf_inputs.specs.declared.summary.EffectLine.{EffectLine}
use Rattle.wf_inputs.specs.declared.summary.Literal.{Literal}
use Rattle.wf_inputs.specs.declared.summary.Summary.{Summary}
use Rattle.wf_inputs.specs.Reading.{summary_of, roots_of}

abbrev pub unnumbered_effect : EffectLine → EffectLine
unnumbered_effect e = record { line = 0; effect = e.effect }

abbrev pub unnumbered_block : Block → Block
unnumbered_block b = record { line = 0; replace = b.replace; method = b.method; effects = map unnumbered_effect b.effects }

abbrev pub unnumbered_literal : Literal → Literal
unnumbered_literal l = record { line = 0; field = l.field; value = l.value }

-- the same summary with 0 for each line number
abbrev pub unnumbered : Summary → Summary
unnumbered s = record { blocks = map unnumbered_block s.blocks; literals = map unnumbered_literal s.literals }

abbrev pub unnumbered_root : RootLine → RootLine
unnumbered_root l = record { line = 0; root = l.root }

-- the same roots with 0 for each line number
abbrev pub unnumbered_roots : Roots → Roots
unnumbered_roots roots = record { lines = map unnumbered_root roots.lines }

-- the text is read as this summary in all but the line numbers
pub record IsReadAsSummary (text : List ℕ) (summary : Summary) : Type 0 where
  pub again : Summary
  pub read : summary_of text ≡ Ok again
  pub same : unnumbered again ≡ unnumbered summary

-- the text is read as these roots in all but the line numbers
pub record IsReadAsRoots (text : List ℕ) (roots : Roots) : Type 0 where
  pub again : Roots
  pub read : roots_of text ≡ Ok again
  pub same : unnumbered_roots again ≡ unnumbered_roots roots

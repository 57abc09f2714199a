-- What no line is bad of is valid, line by line.
use Rattle.std.proofs.Common.{◌≡◌, ℕ, Bool, true, false, List, Option, Some, None, refl, sym, ap, ◌∙◌}
use Rattle.std.specs.Prelude.{slice_get}
use Rattle.std.proofs.lemmas.Bool.{and_parts}
use Rattle.wf_descriptor.specs.Descriptors.{SpellsMethod}
use Rattle.wf_descriptor.specs.declared.descriptor.MethodDesc.{MethodDesc}
use Rattle.wf_inputs.specs.declared.roots.RootLine.{RootLine}
use Rattle.wf_inputs.specs.declared.summary.Block.{Block}
use Rattle.wf_inputs.specs.declared.summary.EffectLine.{EffectLine}
use Rattle.wf_inputs.specs.declared.summary.Literal.{Literal}
use Rattle.wf_inputs.specs.declared.summary.Summary.{Summary}
use Rattle.wf_names.specs.declared.input.InputWhy.{InputWhy}
use Rattle.wf_names.specs.declared.input.InputWhy.TheVariants as why
use Rattle.wf_names.specs.declared.root.Root.TheVariants.{Make}
use Rattle.wf_subtype.specs.Subtypes.{AllTypes}
use Rattle.wf_binding.specs.Named.{method_of, flags_of_method, argument_kinds, is_type, can_be_made}
use Rattle.wf_binding.specs.Numbering.{SummaryStands, RootsStand}
use Rattle.wf_binding.specs.Valid.{IsValidEffect, AreValidEffects, IsValidBlock, AreValidBlocks, IsValidLiteral, AreValidLiterals, IsSoundRoot, AreSoundRoots}
use Rattle.wf_binding.specs.Validity.{HasNoBad, Somewhere, IsBadRootLine, IsBadLine, of_block, of_literal, opening, inside, word_of, has_constructor, can_be_constructed, effect_word, literal_word}
use Rattle.wf_binding.proofs.BlockLines.{word_absent}

no_word : (o : Option InputWhy) → ((w : InputWhy) → o ≡ Some w → ⊥) → o ≡ None
no_word None h = refl
no_word (Some w) h = absurd (h w refl)

valid_effects : (types : AllTypes) (s : Summary) (i : ℕ) (b : Block) (flags : ℕ) (d : MethodDesc) → HasNoBad (IsBadLine types.classes s) → SummaryStands types s → slice_get s.blocks i ≡ Some b → flags_of_method types.classes b.method ≡ Some flags → SpellsMethod 255 b.method.desc d → AreValidEffects types d.ret b.effects
valid_effects types s i b flags d h stands e there spelled = record {
  each = λ j line f. record {
    args = argument_kinds flags d.params;
    word = no_word _ (λ w is. h.none line.line w (of_block (record {
      place = i;
      bad = record {
        block = b;
        there = e;
        bad = inside (record { flags = flags; desc = d; there = there; spelled = spelled; bad = record { place = j; bad = record { effect = line; there = f; at = refl; is = is } } });
      };
    })));
    stands = stands.effects i j b line e f;
  };
}

valid_block : (types : AllTypes) (s : Summary) (i : ℕ) (b : Block) → HasNoBad (IsBadLine types.classes s) → SummaryStands types s → slice_get s.blocks i ≡ Some b → IsValidBlock types b
valid_block types s i b h stands e = go (method_of types.classes b.method) refl where
  go : (o : Option ℕ) → method_of types.classes b.method ≡ o → IsValidBlock types b
  go None is = absurd (h.none b.line why.Absent (of_block (record { place = i; bad = record { block = b; there = e; bad = opening (record { at = refl; is = word_absent types.classes _ b is }) } })))
  go (Some m) is = record { number = m; there = is; effects = λ flags d there spelled. valid_effects types s i b flags d h stands e there spelled }

pub valid_blocks : (types : AllTypes) (s : Summary) → HasNoBad (IsBadLine types.classes s) → SummaryStands types s → AreValidBlocks types s.blocks
valid_blocks types s h stands = record { each = λ i b e. valid_block types s i b h stands e }

pub valid_literals : (types : AllTypes) (s : Summary) → HasNoBad (IsBadLine types.classes s) → SummaryStands types s → AreValidLiterals types s.literals
valid_literals types s h stands = record {
  each = λ i l e. record {
    word = no_word _ (λ w is. h.none l.line w (of_literal (record { place = i; bad = record { literal = l; there = e; at = refl; is = is } })));
    stands = stands.literals i l e;
  };
}

pub sound_roots : (types : AllTypes) (lines : List RootLine) → HasNoBad (Somewhere (IsBadRootLine types.classes lines)) → RootsStand types lines → AreSoundRoots types lines
sound_roots types lines h stands = record {
  each = λ i l e. record {
    sound = λ w bad. h.none l.line w (record { place = i; bad = record { root = l; there = e; at = refl; is = bad } });
    stands = stands.each i l e;
  };
}

right_is : (there right : Bool) → word_of there right ≡ None → right ≡ true
right_is true true e = refl
right_is true false e = absurd cc
right_is false right e = absurd cc

-- a class of which a root makes an object has the constructor
pub made_sound : (types : AllTypes) (name : List ℕ) → IsSoundRoot types (Make name) → has_constructor types.classes name ≡ true
made_sound types name h =
    (and_parts (has_constructor types.classes name) (can_be_made types.classes name)
    (right_is (is_type types.classes name) (can_be_constructed types.classes name) (no_word _ (λ w is. h.sound w is)))).0

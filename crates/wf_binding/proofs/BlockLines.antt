-- The first bad line of blocks, and the methods that had a block.
use Rattle.std.proofs.Common.{◌≡◌, ◌≢◌, ℕ, ◌<◌, ◌+◌, Bool, true, false, ◌||◌, List, [], ◌∷◌, ◌++◌, length, take, get_or, nat_eq, Option, Some, None, refl, sym, ap, subst, ◌∙◌, arith, inl, inr}
use Rattle.std.specs.Prelude.{slice_get, option_and_then}
use Rattle.std.specs.List.{list_any}
use Rattle.std.specs.Option.{option_map_or}
use Rattle.std.proofs.Math.ListN.{set}
use Rattle.std.proofs.lemmas.Option.{slice_get_within, same_Some}
use Rattle.wf_data.specs.declared.class_info.ClassInfo.{ClassInfo}
use Rattle.wf_descriptor.specs.Descriptors.{SpellsMethod}
use Rattle.wf_descriptor.specs.declared.descriptor.MethodDesc.{MethodDesc}
use Rattle.wf_inputs.specs.declared.summary.Block.{Block}
use Rattle.wf_names.specs.declared.input.InputWhy.{InputWhy}
use Rattle.wf_names.specs.declared.input.InputWhy.TheVariants as why
use Rattle.wf_binding.specs.Named.{method_of, flags_of_method, argument_kinds}
use Rattle.wf_binding.specs.Validity.{IsBadEffect, IsBadOpening, IsBadInside, IsBadInBlock, IsBadBlock, opening, inside, opening_word, method_word, is_second, Somewhere}
use Rattle.wf_binding.specs.First.{IsFirst, Upto, at_line, earlier_of}
use Rattle.wf_binding.specs.declared.first.BadLine.{BadLine}
use Rattle.wf_binding.proofs.Finding.{AreTogether, first_of_two, first_at_line, first_more, first_somewhere}

-- ---- one block

-- the word of the line that begins a block
pub opening_first : (classes : List ClassInfo) (earlier : List Block) (b : Block) → IsFirst (IsBadOpening classes earlier b) (at_line b.line (opening_word classes earlier b))
opening_first classes earlier b =
    first_at_line (IsBadOpening classes earlier b) b.line (opening_word classes earlier b) (λ w is. record { at = refl; is = is }) (λ other w h. (h.at, h.is))

pub word_there : (classes : List ClassInfo) (earlier : List Block) (b : Block) (m flags : ℕ) → method_of classes b.method ≡ Some m → flags_of_method classes b.method ≡ Some flags → opening_word classes earlier b ≡ method_word b.replace flags (is_second classes earlier m)
word_there classes earlier b m flags e f =
    ap (λ o. option_map_or (λ n. option_and_then (λ g. method_word b.replace g (is_second classes earlier n)) (flags_of_method classes b.method)) o (Some why.Absent)) e
    ∙ ap (λ o. option_and_then (λ g. method_word b.replace g (is_second classes earlier m)) o) f

pub word_absent : (classes : List ClassInfo) (earlier : List Block) (b : Block) → method_of classes b.method ≡ None → opening_word classes earlier b ≡ Some why.Absent
word_absent classes earlier b e =
    ap (λ o. option_map_or (λ n. option_and_then (λ g. method_word b.replace g (is_second classes earlier n)) (flags_of_method classes b.method)) o (Some why.Absent)) e

pub none_inside : (classes : List ClassInfo) (b : Block) → flags_of_method classes b.method ≡ None → IsFirst (IsBadInside classes b) None
none_inside classes b e = record { none = λ line w h. (let f = h.there in absurd cc) }

-- what the one descriptor of the method and its flags give
pub inside_first : (classes : List ClassInfo) (b : Block) (flags : ℕ) (d : MethodDesc) (found : Option BadLine) → ((m n : ℕ) (bytes : List ℕ) (x y : MethodDesc) → SpellsMethod m bytes x → SpellsMethod n bytes y → x ≡ y) → flags_of_method classes b.method ≡ Some flags → SpellsMethod 255 b.method.desc d → IsFirst (Somewhere (IsBadEffect classes (argument_kinds flags d.params) d.ret b.effects)) found → IsFirst (IsBadInside classes b) found
inside_first classes b flags d found law e s h = go found h where
  at : (line : ℕ) (w : InputWhy) → IsBadInside classes b line w → Somewhere (IsBadEffect classes (argument_kinds flags d.params) d.ret b.effects) line w
  at line w i =
      let same : i.flags ≡ flags = same_Some _ _ (sym i.there ∙ e) in
      let one : i.desc ≡ d = law 255 255 b.method.desc i.desc d i.spelled s in
      subst (λ (x : MethodDesc). Somewhere (IsBadEffect classes (argument_kinds flags x.params) x.ret b.effects) line w) one
      (subst (λ n. Somewhere (IsBadEffect classes (argument_kinds n i.desc.params) i.desc.ret b.effects) line w) same i.bad)

  go : (found : Option BadLine) → IsFirst (Somewhere (IsBadEffect classes (argument_kinds flags d.params) d.ret b.effects)) found → IsFirst (IsBadInside classes b) found
  go None h = record { none = λ line w i. h.none line w (at line w i) }
  go (Some x) h = record {
    bad = record { flags = flags; desc = d; there = e; spelled = s; bad = h.bad };
    first = λ line w i. h.first line w (at line w i);
  }

both : (classes : List ClassInfo) (earlier : List Block) (b : Block) → AreTogether (IsBadOpening classes earlier b) (IsBadInside classes b) (IsBadInBlock classes earlier b)
both classes earlier b = record {
  left = λ line w h. opening h;
  right = λ line w h. inside h;
  either = λ line w h. elim h [ opening o ↦ inl o | inside i ↦ inr i ];
}

pub block_first : (classes : List ClassInfo) (earlier : List Block) (b : Block) (word : Option InputWhy) (within : Option BadLine) → opening_word classes earlier b ≡ word → IsFirst (IsBadInside classes b) within → IsFirst (IsBadInBlock classes earlier b) (earlier_of (at_line b.line word) within)
block_first classes earlier b word within e h =
    first_of_two (IsBadOpening classes earlier b) (IsBadInside classes b) (IsBadInBlock classes earlier b) (at_line b.line word) within (both classes earlier b)
    (subst (λ o. IsFirst (IsBadOpening classes earlier b) (at_line b.line o)) e (opening_first classes earlier b)) h

-- ---- all blocks

-- the block at a place, as the one behind those before it
pub place_first : (classes : List ClassInfo) (blocks : List Block) (n : ℕ) (b : Block) (found : Option BadLine) → slice_get blocks n ≡ Some b → IsFirst (IsBadInBlock classes (take n blocks) b) found → IsFirst (IsBadBlock classes blocks n) found
place_first classes blocks n b found e h = go found h where
  at : (line : ℕ) (w : InputWhy) → IsBadBlock classes blocks n line w → IsBadInBlock classes (take n blocks) b line w
  at line w i = subst (λ (x : Block). IsBadInBlock classes (take n blocks) x line w) (same_Some i.block b (sym i.there ∙ e)) i.bad

  go : (found : Option BadLine) → IsFirst (IsBadInBlock classes (take n blocks) b) found → IsFirst (IsBadBlock classes blocks n) found
  go None h = record { none = λ line w i. h.none line w (at line w i) }
  go (Some x) h = record { bad = record { block = b; there = e; bad = h.bad }; first = λ line w i. h.first line w (at line w i) }

pub more_blocks : (classes : List ClassInfo) (blocks : List Block) (n : ℕ) (b : Block) (found here : Option BadLine) → slice_get blocks n ≡ Some b → IsFirst (Upto (IsBadBlock classes blocks) n) found → IsFirst (IsBadInBlock classes (take n blocks) b) here → IsFirst (Upto (IsBadBlock classes blocks) (n + 1)) (earlier_of found here)
more_blocks classes blocks n b found here e p q = first_more (IsBadBlock classes blocks) n found here p (place_first classes blocks n b here e q)

pub all_blocks : (classes : List ClassInfo) (blocks : List Block) (n : ℕ) (found : Option BadLine) → n ≡ length blocks → IsFirst (Upto (IsBadBlock classes blocks) n) found → IsFirst (Somewhere (IsBadBlock classes blocks)) found
all_blocks classes blocks n found e h =
    first_somewhere (IsBadBlock classes blocks) n found (λ place line w b. rw e (slice_get_within blocks place b.block b.there)) h

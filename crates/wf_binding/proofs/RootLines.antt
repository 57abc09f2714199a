-- The first bad root.
use Rattle.std.proofs.Common.{◌≡◌, ℕ, ◌<◌, ◌+◌, Bool, true, false, List, length, Option, Some, None, refl, sym, ap, subst, ◌∙◌}
use Rattle.std.specs.Prelude.{slice_get, IsTrue, ◌↔◌}
use Rattle.std.specs.List.{list_all}
use Rattle.std.proofs.lemmas.Option.{slice_get_within, same_Some}
use Rattle.wf_data.specs.Flags.{is_static}
use Rattle.wf_data.specs.declared.class_info.ClassInfo.{ClassInfo}
use Rattle.wf_descriptor.specs.Descriptors.{SpellsMethod}
use Rattle.wf_descriptor.specs.declared.descriptor.FieldDesc.{FieldDesc}
use Rattle.wf_descriptor.specs.declared.descriptor.MethodDesc.{MethodDesc}
use Rattle.wf_inputs.specs.declared.roots.RootLine.{RootLine}
use Rattle.wf_names.specs.declared.input.InputWhy.{InputWhy}
use Rattle.wf_names.specs.declared.input.InputWhy.TheVariants as why
use Rattle.wf_names.specs.declared.member.MemberName.{MemberName}
use Rattle.wf_names.specs.declared.root.Root.{Root}
use Rattle.wf_binding.specs.Named.{method_of, flags_of_method}
use Rattle.wf_binding.specs.Validity.{CanStart, IsBadStart, absent, of_kind, IsBadRoot, IsBadRootLine, Somewhere, is_followed}
use Rattle.wf_binding.specs.First.{IsFirst, IsWord, Upto, at_line, earlier_of}
use Rattle.wf_binding.specs.declared.first.BadLine.{BadLine}
use Rattle.wf_binding.proofs.Finding.{first_of_word, first_more, first_somewhere}

-- ---- words

-- a word that a test gives
pub word_is : (word : Option InputWhy) → IsWord (λ w. word ≡ Some w) word
word_is None = λ w e. cc
word_is (Some w) = refl

-- what can be a root isn't wrong
pub starts : (classes : List ClassInfo) (m : MemberName) (flags n : ℕ) → method_of classes m ≡ Some n → flags_of_method classes m ≡ Some flags → CanStart flags m.desc → (w : InputWhy) → IsBadStart classes m w → ⊥
starts classes m flags n e f can w bad = elim bad [
  | absent is none ↦ (let g = e in absurd cc)
  | of_kind other is there cannot ↦ cannot (subst (λ x. CanStart x m.desc) (same_Some flags other (sym f ∙ there)) can)
]

-- a method whose descriptor has only parameters that are followed
pub can_start : (flags : ℕ) (desc : List ℕ) (d : MethodDesc) (can : Bool) → ((m n : ℕ) (bytes : List ℕ) (x y : MethodDesc) → SpellsMethod m bytes x → SpellsMethod n bytes y → x ≡ y) → is_static flags ≡ true → SpellsMethod 255 desc d → can ≡ list_all (λ (p : FieldDesc). is_followed p.kind) d.params → IsTrue can ↔ CanStart flags desc
can_start flags desc d can law static spelled is = (
  (λ t. record { static = static; parsed = d; spelled = spelled; followed = sym is ∙ t }),
  λ h. is ∙ ap (λ (x : MethodDesc). list_all (λ (p : FieldDesc). is_followed p.kind) x.params) (law 255 255 desc d h.parsed spelled h.spelled) ∙ h.followed,
)

-- ---- lines

place_first : (classes : List ClassInfo) (lines : List RootLine) (n : ℕ) (r : RootLine) (word : Option InputWhy) → slice_get lines n ≡ Some r → IsWord (IsBadRoot classes r.root) word → IsFirst (IsBadRootLine classes lines n) (at_line r.line word)
place_first classes lines n r word there h =
    first_of_word (IsBadRootLine classes lines n) (IsBadRoot classes r.root) r.line word (λ w bad. record { root = r; there = there; at = refl; is = bad }) (λ other w b.
    let same : b.root ≡ r = same_Some b.root r (sym b.there ∙ there) in
    (sym (ap (λ (x : RootLine). x.line) same) ∙ b.at, subst (λ (x : RootLine). IsBadRoot classes x.root w) same b.is)) h

pub more_roots : (classes : List ClassInfo) (lines : List RootLine) (n : ℕ) (r : RootLine) (word : Option InputWhy) (found : Option BadLine) → slice_get lines n ≡ Some r → IsFirst (Upto (IsBadRootLine classes lines) n) found → IsWord (IsBadRoot classes r.root) word → IsFirst (Upto (IsBadRootLine classes lines) (n + 1)) (earlier_of found (at_line r.line word))
more_roots classes lines n r word found there h bad = first_more (IsBadRootLine classes lines) n found (at_line r.line word) h (place_first classes lines n r word there bad)

pub all_roots : (classes : List ClassInfo) (lines : List RootLine) (n : ℕ) (found : Option BadLine) → n ≡ length lines → IsFirst (Upto (IsBadRootLine classes lines) n) found → IsFirst (Somewhere (IsBadRootLine classes lines)) found
all_roots classes lines n found e h =
    first_somewhere (IsBadRootLine classes lines) n found (λ place line w b. rw e (slice_get_within lines place b.root b.there)) h

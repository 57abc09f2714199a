use Rattle.std.proofs.Common.{◌≡◌, ℕ, inl, inr, true, subst, sym, ap, ◌∙◌, arith, Some}
use Rattle.std.specs.Prelude.{slice_get}
use Rattle.std.specs.Str.{bytes_eq}
use Rattle.std.proofs.lemmas.Bool.{cases_lt, true≢false}
use Rattle.std.proofs.lemmas.Option.{slice_get_within, get_or_from_slice_get}
use Rattle.std.proofs.lemmas.Slice.Eq.{bytes_eq-Decides}
use Rattle.wf_data.specs.declared.class_info.ClassInfo.{ClassInfo}
use Rattle.wf_worlds.proofs.tests.made.is_named.Goals as goal

pub loop-class-preserved : goal.loop-class-preserved
loop-class-preserved c = λ i k lt there named. elim (cases_lt i c.loop-class.class-index) [
  | inl l ↦ c.loop-class.invariant i k l there named
  | inr h ↦
      (let here : slice_get c.args.classes.now c.loop-class.class-index ≡ Some k = subst (λ (j : ℕ). slice_get c.args.classes.now j ≡ Some k) (omega (arith, lt, h)) there in
      let same : c.class-item.result ≡ k = c.class-item.is ∙ get_or_from_slice_get c.args.classes.now c.loop-class.class-index k c.class-item.result here in
      let equal : c.as_slice.result.now ≡ c.args.name.now = c.as_slice.ensures ∙ ap (λ (d : ClassInfo). d.name) same ∙ named in
      let yes : bytes_eq c.as_slice.result.now c.args.name.now ≡ true = (bytes_eq-Decides c.as_slice.result.now c.args.name.now).1 equal in
      absurd (true≢false (sym yes ∙ sym c.if-eq.ensures)))
]

pub returns : goal.returns
returns c = λ e. record { none = λ i k there named. c.loop-class.invariant i k (omega (arith, slice_get_within c.args.classes.now i k there)) there named }

use Rattle.std.proofs.Common.{◌≡◌, ℕ, Bool, false, length, sym, ap, ◌∙◌, subst}
use Rattle.wf_lattice.specs.declared.view.Nulls.{Nulls}
use Rattle.wf_lattice.specs.Words.{words_of, flags_of, JoinsRow}
use Rattle.wf_lattice.specs.Meaning.{means_null}
use Rattle.wf_lattice.specs.Filters.{filtered}
use Rattle.wf_lattice.proofs.JoinLaws.{joins_null}
use Rattle.wf_lattice.proofs.filter.filtered.Goals as goal

pub returns-in-Only : goal.returns-in-Only
returns-in-Only c =
    let most : ℕ = c.args.v.threshold in
    let n : ℕ = length c.args.mask.now in
    let v : ℕ → ℕ = words_of c.args.v.words.now in
    let null : c.means_null.result ≡ means_null most n v = c.means_null.ensures ∙ ap (λ (m : ℕ). means_null most m v) c.requires.value_length in
    subst (λ (nulls : Nulls). JoinsRow (filtered most n v (words_of c.args.inst.words.now) (words_of c.args.mask.now) nulls) c.args.into.now c.join_flags.new.into) (sym c.in-Only.is)
    (joins_null most n (means_null most n v) c.args.into.now c.join_flags.new.into
    (subst (λ (b : Bool). JoinsRow (flags_of false b) c.args.into.now c.join_flags.new.into) null c.join_flags.ensures))

use Rattle.std.proofs.Common.{ℕ, List, Some, ap, sym, ◌∙◌}
use Rattle.wf_classfile.specs.Places.{IsSeen}
use Rattle.wf_classfile.proofs.NumberLaws.{still_seen, one_more_seen, same_seen}
use Rattle.wf_classfile.proofs.texts.Texts.see.Goals as goal

pub returns-in-Some-clause-found : goal.returns-in-Some-clause-found
returns-in-Some-clause-found c = rw (← c.self.view_is, c.in_ok-clone.ensures.cases) (c.self.invariant.seen c.args.place c.in-Some.seen.now (sym c.in-Some.ensures.value))

pub invariant_of-self : goal.invariant_of-self
invariant_of-self c =
    let there = sym c.in-Some-text_of.ensures ∙ ap (λ (t : List ℕ). Some t) (sym c.in_ok-text-in-Some-text_of.ensures.cases) in
    still_seen c.self.inside.pool.now c.self.inside.places c.self.inside.numbers.entries c.number_of.new.numbers.entries c.in_ok-text-in-Some-text_of.text c.args.place there c.number_of.ensures.adds c.self.invariant

pub invariant_of-self-in_err-clone-2 : goal.invariant_of-self-in_err-clone-2
invariant_of-self-in_err-clone-2 c =
    let there = sym c.in-Some-text_of.ensures ∙ ap (λ (t : List ℕ). Some t) (sym c.in_ok-text-in-Some-text_of.ensures.cases) in
    still_seen c.self.inside.pool.now c.self.inside.places c.self.inside.numbers.entries c.number_of.new.numbers.entries c.in_ok-text-in-Some-text_of.text c.args.place there c.number_of.ensures.adds c.self.invariant

pub invariant_of-self-in_err-insert : goal.invariant_of-self-in_err-insert
invariant_of-self-in_err-insert c =
    let there = sym c.in-Some-text_of.ensures ∙ ap (λ (t : List ℕ). Some t) (sym c.in_ok-text-in-Some-text_of.ensures.cases) in
    let after = still_seen c.self.inside.pool.now c.self.inside.places c.self.inside.numbers.entries c.number_of.new.numbers.entries c.in_ok-text-in-Some-text_of.text c.args.place there c.number_of.ensures.adds c.self.invariant in
    same_seen c.self.inside.pool.now c.self.inside.places c.insert.new.self c.number_of.new.numbers.entries c.in_err-insert.ensures.err after

pub returns-in_err-insert-clause-stand : goal.returns-in_err-insert-clause-stand
returns-in_err-insert-clause-stand c =
    let there = sym c.in-Some-text_of.ensures ∙ ap (λ (t : List ℕ). Some t) (sym c.in_ok-text-in-Some-text_of.ensures.cases) in
    let after = still_seen c.self.inside.pool.now c.self.inside.places c.self.inside.numbers.entries c.number_of.new.numbers.entries c.in_ok-text-in-Some-text_of.text c.args.place there c.number_of.ensures.adds c.self.invariant in
    record { stands = after.stands }

pub invariant_of-self-2 : goal.invariant_of-self-2
invariant_of-self-2 c =
    let there = sym c.in-Some-text_of.ensures ∙ ap (λ (t : List ℕ). Some t) (sym c.in_ok-text-in-Some-text_of.ensures.cases) in
    let after = still_seen c.self.inside.pool.now c.self.inside.places c.self.inside.numbers.entries c.number_of.new.numbers.entries c.in_ok-text-in-Some-text_of.text c.args.place there c.number_of.ensures.adds c.self.invariant in
    let seen : IsSeen c.self.inside.pool.now c.number_of.new.numbers.entries c.args.place c.in_ok-clone-2.field-0 = rw (c.in_ok-clone-2.ensures.cases, c.new-known.ensures) (record { text = there; number = c.in_ok-number.ensures.number }) in
    one_more_seen c.self.inside.pool.now c.self.inside.places c.insert.new.self c.number_of.new.numbers.entries c.args.place c.in_ok-clone-2.field-0 seen c.in_ok-insert.ensures.updates after

use Rattle.std.proofs.Common.{◌≡◌, ℕ, Bool, true, false, not, ◌&&◌, Some, None, sym, subst, refl}
use Rattle.wf_grammar.specs.ClassFile.{Key}
use Rattle.wf_data.specs.Flags.{is_private}
use Rattle.wf_classes.specs.World.{number}
use Rattle.wf_resolve.specs.Upward.{FirstUp, found, passed, ended}
use Rattle.wf_select.specs.Overriding.{Overrides, itself, is_open}
use Rattle.wf_select.proofs.OverridingLaws.{private_alone}
use Rattle.wf_select.proofs.overriding.first_of_private.Goals as goal

clash : false ≡ true → ⊥
clash e = cc

closed : (b p : Bool) → p ≡ true → (not b && not p) ≡ false
closed true p e = refl
closed false true e = refl
closed false false e = absurd cc

pub returns-then-are_one-clause-first : goal.returns-then-are_one-clause-first
returns-then-are_one-clause-first c =
    let key : Key = (c.args.name.now, c.args.desc.now) in
    let a = number c.args.a.class in
    let P = λ (x : ℕ). Overrides c.args.classes.now key x a in
    let own : FirstUp c.args.classes.now P a (Some a) = found a (itself a c.args.a.flags (record { there = c.requires.own.flagged; of_instance = c.requires.of_instance })) in
    c.upward.invariant.first (Some a) (subst (λ n. FirstUp c.args.classes.now P n (Some a)) (sym (c.if-are_one.ensures.0 refl)) own)

pub upward-preserved : goal.upward-preserved
upward-preserved c = record {
  in_there = c.in-Some.ensures.there;
  first = λ r h. c.upward.invariant.first r (passed c.upward.d.0 c.in-Some.s.0 r
      (λ p. clash (c.if-are_one.ensures.1 (private_alone c.args.classes.now (c.args.name.now, c.args.desc.now) c.upward.d.0 (number c.args.a.class) c.args.a.flags p c.requires.own.flagged c.requires.closed (closed (is_open c.args.a.flags) (is_private c.args.a.flags) c.requires.of_class))))
      (sym c.in-Some.ensures.number) h);
}

pub returns-in-None-clause-first : goal.returns-in-None-clause-first
returns-in-None-clause-first c =
    c.upward.invariant.first None (ended c.upward.d.0
    (λ p. clash (c.if-are_one.ensures.1 (private_alone c.args.classes.now (c.args.name.now, c.args.desc.now) c.upward.d.0 (number c.args.a.class) c.args.a.flags p c.requires.own.flagged c.requires.closed (closed (is_open c.args.a.flags) (is_private c.args.a.flags) c.requires.of_class))))
    (sym c.in-None.ensures.number))
